use Rattle.std.proofs.Common.{◌≡◌, ◌<◌, ◌∙◌, ◌^◌, true, nat_lt, drop, arith, rules, tests, refl}
use Rattle.std.specs.Char.{is_ascii_digit}
use Rattle.std.specs.List.{list_all}
use Rattle.std.specs.Str.Parse.{digits_value}
use Rattle.split_numbers.proofs.Twelve.{units_of_twelve}
use Rattle.split_numbers.proofs.decimal.trillionths_of.Goals as goal

pub returns-then-whole-lt-MANY : goal.returns-then-whole-lt-MANY
returns-then-whole-lt-MANY c =
    let value : digits_value 10 c.args.before.now ≡ c.in_ok-whole.whole = omega (arith, c.in_ok-whole.ensures.1) in
    let few : digits_value 10 c.args.before.now < 10 ^ 12 = omega (arith, value) in
    let test : nat_lt (digits_value 10 c.args.before.now) (10 ^ 12) ≡ true = search (rules, tests) in
    let fewer : digits_value 10 c.args.before.now < 10 ^ 6 = omega (arith, value, c.if-whole-lt-MANY.true) in
    let test_too : nat_lt (digits_value 10 c.args.before.now) (10 ^ 6) ≡ true = search (rules, tests) in
    let all : list_all is_ascii_digit c.args.behind.now ≡ true = search (rules, tests) in
    c.trillionths_with.ensures
    ∙ rw (c.in_ok-whole.ensures.0, test, test_too, all, units_of_twelve c.args.negative c.args.before.now c.args.behind.now (drop 12 c.args.behind.now), value) refl
