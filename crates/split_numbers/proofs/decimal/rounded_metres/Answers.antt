use Rattle.std.proofs.Common.{◌≡◌, ◌+◌, ◌-◌, ◌*◌, ◌∙◌, Option, Some, None, if◌then◌else◌, List, ◌∷◌, ℕ, Bool, ap, true, false, sym, rules, tests, refl}
use lib.IntN.{ℤ}
use Rattle.std.specs.Char.{is_ascii_digit}
use Rattle.std.specs.Int.{IsInRange}
use Rattle.std.specs.List.{list_all}
use Rattle.range_plane.specs.declared.scale.Scale.TheVariants.{Metre, Decimetre}
use Rattle.split_numbers.specs.Digits.{units_with}
use Rattle.split_numbers.proofs.Units.{decimetres_are, whole_decimetres_are}
use Rattle.split_numbers.proofs.decimal.rounded_metres.Goals as goal

pub returns-in_default : goal.returns-in_default
returns-in_default c =
    c.rounded-in_default.ensures ∙ rw (c.in-Decimetre.is, whole_decimetres_are c.args.negative c.args.metres c.args.digits.now c.in_default.ensures.cases) refl

by_first : (negative : Bool) (metres d from : ℕ) (digits others : List ℕ) → from ≡ d - 48 → digits ≡ d ∷ others → IsInRange 48 57 d → is_ascii_digit d ≡ true
    → ◌≡◌ {A = Option ℤ} (if list_all is_ascii_digit others then Some (units_with Metre negative (metres * 10 + from) others) else None)
    (if list_all is_ascii_digit digits then Some (units_with Decimetre negative metres digits) else None)
by_first negative metres d from digits others f e range digit =
    rw (e, f, digit) (same (list_all is_ascii_digit others) refl)
  where
    same : (all : Bool) → list_all is_ascii_digit others ≡ all
        → ◌≡◌ {A = Option ℤ} (if all then Some (units_with Metre negative (metres * 10 + (d - 48)) others) else None) (if all then Some (units_with Decimetre negative metres (d ∷ others)) else None)
    same true all = ap Some (sym (decimetres_are negative metres d others range all))
    same false all = refl

pub returns-else-not-is_ascii_digit : goal.returns-else-not-is_ascii_digit
returns-else-not-is_ascii_digit c =
    let d = c.in-Some.first.now in
    let digit : is_ascii_digit c.in-Some.first.now ≡ true = search (rules, tests) in
    let range : IsInRange 48 57 c.in-Some.first.now = search (rules, tests) in
    c.rounded-in-Decimetre.ensures ∙ rw c.in-Decimetre.is (by_first c.args.negative c.args.metres d c.from.result c.args.digits.now c.in-Some.others.now c.from.ensures c.in-Some.ensures.cases.0 range digit)
