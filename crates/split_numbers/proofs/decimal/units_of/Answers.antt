use Rattle.std.proofs.Common.{◌≡◌, ◌<◌, ◌∙◌, ◌^◌, true, nat_lt, arith, rules, tests, refl}
use Rattle.std.specs.Str.Parse.{digits_value}
use Rattle.split_numbers.proofs.Units.{units_of_both}
use Rattle.split_numbers.proofs.decimal.units_of.Goals as goal

pub returns : goal.returns
returns c =
    let value : digits_value 10 c.args.before.now ≡ c.in_ok-metres.metres = omega (arith, c.in_ok-metres.ensures.1) in
    let few : digits_value 10 c.args.before.now < 10 ^ 12 = omega (arith, value) in
    let test : nat_lt (digits_value 10 c.args.before.now) (10 ^ 12) ≡ true = search (rules, tests) in
    c.rounded_metres.ensures ∙ rw (c.in_ok-metres.ensures.0, test, units_of_both c.args.unit c.args.negative c.args.before.now c.args.behind.now, value) refl
