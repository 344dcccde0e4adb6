use Rattle.std.proofs.Common.{◌≡◌, ◌∙◌, Some, None, ap, sym, arith, if◌then◌else◌}
use lib.IntN.{ℤ}
use Rattle.std.specs.Char.{is_ascii_digit}
use Rattle.std.specs.List.{list_all}
use Rattle.std.proofs.lemmas.Int.{ints}
use Rattle.range_plane.specs.declared.scale.Scale.TheVariants.{Metre}
use Rattle.split_numbers.specs.Digits.{against_half, units_with}
use Rattle.split_numbers.proofs.Conditions.{condition_of, there, value_of}
use Rattle.split_numbers.proofs.Rounding.{nearest}
use Rattle.split_numbers.proofs.Units.{units_are, not_greater, not_less}
use Rattle.split_numbers.proofs.decimal.rounded.Goals as goal
use Rattle.split_numbers.proofs.decimal.rounded.Goals.{In_ok-part}

-- what is nearest by the part that was found is what the digits come to
found : (c : In_ok-part) (units : ℤ) → units ≡ nearest c.args.negative c.args.units c.in_ok-part.part
    → Some units ≡ (if list_all is_ascii_digit c.args.digits.now then Some (units_with Metre c.args.negative c.args.units c.args.digits.now) else None)
found c units e =
    let digits = c.args.digits.now in
    let all = condition_of (list_all is_ascii_digit digits) c.in_ok-part.part (against_half digits) c.in_ok-part.ensures in
    let part = value_of (list_all is_ascii_digit digits) c.in_ok-part.part (against_half digits) c.in_ok-part.ensures in
    there (list_all is_ascii_digit digits) units (units_with Metre c.args.negative c.args.units digits) all
    (e ∙ ap (nearest c.args.negative c.args.units) part ∙ sym (units_are c.args.negative c.args.units digits all))

pub returns-in-Greater : goal.returns-in-Greater
returns-in-Greater c = found (goal.at.returns-in-Greater c).In_ok-part _ (rw (c.if-negative.true, c.in-Greater.is) (omega (arith, ints)))

pub returns-in_default : goal.returns-in_default
returns-in_default c =
    found (goal.at.returns-in_default c).In_ok-part _ (rw (c.if-negative.true, not_greater c.args.units c.in_ok-part.part c.in_default.not-Greater) (omega (arith, ints)))

pub returns-in-Less : goal.returns-in-Less
returns-in-Less c = found (goal.at.returns-in-Less c).In_ok-part _ (rw (c.if-negative.false, c.in-Less.is) (omega (arith, ints)))

pub returns-in_default-part : goal.returns-in_default-part
returns-in_default-part c =
    found (goal.at.returns-in_default-part c).In_ok-part _ (rw (c.if-negative.false, not_less c.args.units c.in_ok-part.part c.in_default-part.not-Less) (omega (arith, ints)))
