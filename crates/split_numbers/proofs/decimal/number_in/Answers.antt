use Rattle.std.proofs.Common.{◌+◌, ◌∙◌, sym, refl}
use Rattle.split_numbers.proofs.Units.{no_decimals, rest_of, some_decimals}
use Rattle.split_numbers.proofs.decimal.number_in.Goals as goal

pub returns-in_default : goal.returns-in_default
returns-in_default c = c.measured_of.ensures ∙ rw (← c.in_default.ensures.place) refl

pub returns-then-is_empty : goal.returns-then-is_empty
returns-then-is_empty c =
    let number = c.args.number.now in
    rw (← c.in-Some.ensures.place) (no_decimals c.args.measure c.args.negative number _ c.in-Some.point (rest_of (c.in-Some.point + 1) number) (sym c.is_empty.ensures ∙ c.if-is_empty.true))

pub returns : goal.returns
returns c =
    let number = c.args.number.now in
    c.measured_of-2.ensures
    ∙ rw (← c.in-Some.ensures.place) (some_decimals c.args.measure c.args.negative number _ c.in-Some.point (rest_of (c.in-Some.point + 1) number) (sym c.is_empty.ensures ∙ c.if-is_empty.false))
