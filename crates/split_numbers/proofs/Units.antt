-- Whole units of a number and of the digits behind its point.
use Rattle.std.proofs.Common.{◌≡◌, ◌&&◌, ◌==◌, Option, Some, None, if◌then◌else◌, nat_lt, take, drop, length-drop, ◌+◌, ◌-◌, ◌*◌, ◌^◌, ◌<◌, ◌≤◌, ◌∙◌, ℕ, Bool, true, false, List, [], ◌∷◌, length, ap, sym, refl, inl, inr, arith, rules, tests}
use lib.IntN.{ℤ, pos, neg_ℤ}
use Rattle.std.specs.Char.{digit_value, is_ascii_digit}
use Rattle.std.specs.Int.{IsInRange}
use Rattle.std.specs.List.{list_all}
use Rattle.std.specs.Str.Parse.{digits_value}
use Rattle.std.specs.declared.cmp.Ordering.{Ordering}
use Rattle.std.specs.declared.cmp.Ordering.TheVariants.{Less, Equal, Greater}
use Rattle.std.proofs.Math.Nat.{pow-suc}
use Rattle.std.proofs.lemmas.Bool.{and_right, cases_order}
use Rattle.std.proofs.lemmas.List.{take_all}
use Rattle.std.proofs.lemmas.Str.{digit_value_digit}
use Rattle.range_plane.specs.declared.scale.Scale.{Scale}
use Rattle.range_plane.specs.declared.scale.Scale.TheVariants.{Metre, Decimetre}
use Rattle.range_numbers.specs.Number.{is_number}
use Rattle.split_numbers.specs.Decimal.{cut, measured_in_parts, measured_of, twelve_of, units_of}
use Rattle.split_numbers.specs.declared.decimal.Measure.{Measure}
use Rattle.split_numbers.specs.Digits.{against_half, half_at, units_with}
use Rattle.split_numbers.proofs.Rounding.{above, below, nearest, rounded_is, half_less, half_equal, half_greater}
use Rattle.split_numbers.proofs.Values.{value_less, value_of_first, value-append}

-- whole units by what is left of another one
pub units_are : (negative : Bool) (units : ℕ) (digits : List ℕ) → list_all is_ascii_digit digits ≡ true → units_with Metre negative units digits ≡ nearest negative units (against_half digits)
unfolding units_with against_half
units_are negative units digits all =
    rounded_is negative 1 (units * 10 ^ length digits + digits_value 10 digits) (length digits) units (digits_value 10 digits) (omega arith) (value_less digits all)

pub not_greater : (w : ℕ) (part : Ordering) → (part ≡ Greater → ⊥) → below w part ≡ neg_ℤ (pos w)
not_greater w Less h = refl
not_greater w Equal h = refl
not_greater w Greater h = absurd (h refl)

pub not_less : (w : ℕ) (part : Ordering) → (part ≡ Less → ⊥) → above w part ≡ pos (w + 1)
not_less w Less h = absurd (h refl)
not_less w Equal h = refl
not_less w Greater h = refl

ten_to_one : (n m : ℕ) → half_at (10 * n) (m * 10) ≡ half_at n m
ten_to_one n m = elim (cases_order (2 * n) m) [
  | inl equal ↦ half_equal (10 * n) (m * 10) (omega (arith, equal)) ∙ sym (half_equal n m equal)
  | inr (inl less) ↦ half_less (10 * n) (m * 10) (omega (arith, less)) ∙ sym (half_less n m less)
  | inr (inr more) ↦ half_greater (10 * n) (m * 10) (omega (arith, more)) ∙ sym (half_greater n m more)
]

-- the first digit behind the point counts decimetres
pub decimetres_are : (negative : Bool) (metres d : ℕ) (others : List ℕ) → IsInRange 48 57 d → list_all is_ascii_digit others ≡ true
    → units_with Decimetre negative metres (d ∷ others) ≡ units_with Metre negative (metres * 10 + (d - 48)) others
unfolding units_with
decimetres_are negative metres d others range all =
    let p = 10 ^ length others in
    let value = digits_value 10 others in
    let digit : digit_value d ≡ d - 48 = omega (arith, digit_value_digit d range) in
    let first : digits_value 10 (d ∷ others) ≡ (d - 48) * 10 ^ length others + digits_value 10 others = rw (value_of_first d others, digit) refl in
    let power : 10 ^ length (d ∷ others) ≡ 10 ^ length others * 10 = pow-suc 10 (length others) in
    let small : value < p = value_less others all in
    let number : 10 * (metres * 10 ^ length (d ∷ others) + digits_value 10 (d ∷ others)) ≡ (metres * 10 + (d - 48)) * 10 ^ length (d ∷ others) + 10 * digits_value 10 others =
    rw (first, power) (omega arith) in
    rounded_is negative 10 (metres * 10 ^ length (d ∷ others) + digits_value 10 (d ∷ others)) (length (d ∷ others)) (metres * 10 + (d - 48)) (10 * value) number (omega (arith, small, power))
    ∙ ap (nearest negative (metres * 10 + (d - 48))) (rw power (ten_to_one value p))
    ∙ sym (rounded_is negative 1 ((metres * 10 + (d - 48)) * p + value) (length others) (metres * 10 + (d - 48)) value (omega arith) small)

-- no digit behind it is none of them
pub whole_decimetres_are : (negative : Bool) (metres : ℕ) (digits : List ℕ) → length digits ≡ 0 → units_with Decimetre negative metres digits ≡ units_with Metre negative (metres * 10) digits
unfolding units_with
whole_decimetres_are negative metres [] e =
    rounded_is negative 10 (metres * 10 ^ 0 + 0) 0 (metres * 10) 0 (omega arith) (omega arith)
    ∙ sym (rounded_is negative 1 (metres * 10 * 10 ^ 0 + 0) 0 (metres * 10) 0 (omega arith) (omega arith))
whole_decimetres_are negative metres (d ∷ digits) e = cc e

-- digits before a point and behind it by their values
pub units_of_both : (unit : Scale) (negative : Bool) (before behind : List ℕ) → units_of unit negative before behind ≡ units_with unit negative (digits_value 10 before) behind
unfolding units_with
units_of_both unit negative before behind = rw (value-append before behind) refl

-- a point with nothing behind it
pub no_decimals : (measure : Measure) (negative : Bool) (number behind : List ℕ) (i : ℕ) → behind ≡ drop (i + 1) number → (length behind == 0) ≡ true
    → ◌≡◌ {A = Option ℤ} None (measured_in_parts measure (cut negative number (Some i)))
no_decimals measure negative number behind i e empty =
    let none : length behind ≤ 0 = search (rules, tests) in
    let test : nat_lt 0 (length behind) ≡ false = search (rules, tests) in
    let test_too : nat_lt 0 (length (drop (i + 1) number)) ≡ false = rw e at test in
    let before = take i number in
    rw (test_too, and_right (is_number before && nat_lt (digits_value 10 before) (10 ^ 12)) false refl) refl

-- a point with something behind it
pub some_decimals : (measure : Measure) (negative : Bool) (number behind : List ℕ) (i : ℕ) → behind ≡ drop (i + 1) number → (length behind == 0) ≡ false
    → ◌≡◌ {A = Option ℤ} (if is_number (take i number) && nat_lt (digits_value 10 (take i number)) (10 ^ 12) && list_all is_ascii_digit behind
    then Some (measured_of measure negative (take i number) behind) else None) (measured_in_parts measure (cut negative number (Some i)))
some_decimals measure negative number behind i e some =
    let many : 0 < length behind = search (rules, tests) in
    let test : nat_lt 0 (length behind) ≡ true = search (rules, tests) in
    let test_too : nat_lt 0 (length (drop (i + 1) number)) ≡ true = rw e at test in
    rw (e, test_too) refl

-- the rest of a list from i on
pub rest_of : (i : ℕ) (xs : List ℕ) → take (length xs - i) (drop i xs) ≡ drop i xs
rest_of i xs = take_all (length xs - i) (drop i xs) (omega (arith, length-drop i xs))
