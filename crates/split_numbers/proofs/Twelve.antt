-- The twelve digits behind a point that count trillionths.
use Rattle.std.proofs.Common.{◌≡◌, ◌+◌, ◌-◌, ◌*◌, ◌^◌, ◌<◌, ◌≤◌, ◌&&◌, ◌++◌, ◌∙◌, ℕ, zero, suc, min, nat_lt, Bool, true, codes, List, [], ◌∷◌, length, length-drop, take, drop, ap, sym, arith, refl, rules, tests}
use lib.IntN.{ℤ}
use Rattle.std.specs.Char.{is_ascii_digit}
use Rattle.std.specs.List.{list_all}
use Rattle.std.specs.Str.Parse.{digits_value}
use Rattle.std.proofs.lemmas.Bool.{and_parts}
use Rattle.std.proofs.lemmas.List.{length-append, length-take}
use Rattle.std.proofs.lemmas.List.Folds.{list_all-append}
use Rattle.range_numbers.specs.Number.{is_number}
use Rattle.range_plane.specs.declared.scale.Scale.TheVariants.{Metre}
use Rattle.split_numbers.specs.Decimal.{twelve_of, units_of}
use Rattle.split_numbers.specs.Digits.{units_with}
use Rattle.split_numbers.proofs.Units.{units_of_both}
use Rattle.split_numbers.proofs.Values.{value-append, value_less}

all_of_take : (n : ℕ) (digits : List ℕ) → list_all is_ascii_digit digits ≡ true → list_all is_ascii_digit (take n digits) ≡ true
all_of_take zero digits e = refl
all_of_take (suc n) [] e = refl
all_of_take (suc n) (d ∷ digits) e =
    let both = and_parts (is_ascii_digit d) (list_all is_ascii_digit digits) e in
    rw (both.0, all_of_take n digits both.1) refl

pub all_of_drop : (n : ℕ) (digits : List ℕ) → list_all is_ascii_digit digits ≡ true → list_all is_ascii_digit (drop n digits) ≡ true
all_of_drop zero digits e = e
all_of_drop (suc n) [] e = refl
all_of_drop (suc n) (d ∷ digits) e = all_of_drop n digits (and_parts (is_ascii_digit d) (list_all is_ascii_digit digits) e).1

-- twelve digits are twelve
twelve : (digits : List ℕ) → length (twelve_of digits) ≡ 12
twelve digits =
    omega (arith, length-append (take 12 digits) (drop (length digits) (codes "000000000000")), length-take 12 digits, length-drop (length digits) (codes "000000000000"))

all_of_twelve : (digits : List ℕ) → list_all is_ascii_digit digits ≡ true → list_all is_ascii_digit (twelve_of digits) ≡ true
all_of_twelve digits e =
    list_all-append is_ascii_digit (take 12 digits) (drop (length digits) (codes "000000000000"))
    ∙ rw (all_of_take 12 digits e, all_of_drop (length digits) (codes "000000000000") refl) refl

-- they are a number
pub twelve_is_number : (digits : List ℕ) → list_all is_ascii_digit digits ≡ true → is_number (twelve_of digits) ≡ true
twelve_is_number digits e =
    let some : 0 < length (twelve_of digits) = omega (arith, twelve digits) in
    let test : nat_lt 0 (length (twelve_of digits)) ≡ true = search (rules, tests) in
    rw (test, all_of_twelve digits e) refl

-- which is less than a trillion
pub twelve_less : (digits : List ℕ) → list_all is_ascii_digit digits ≡ true → digits_value 10 (twelve_of digits) < 1_000_000_000_000
twelve_less digits e =
    let power : 10 ^ length (twelve_of digits) ≡ 1_000_000_000_000 = ap (λ (k : ℕ). 10 ^ k) (twelve digits) in
    omega (arith, value_less (twelve_of digits) (all_of_twelve digits e), power)

-- a number below a limit is what it is held to
pub below_limit : (value held cap : ℕ) → min cap held ≡ min cap value → value < cap → held ≡ value
below_limit value held cap e less = omega arith

-- digits before a point, and twelve behind it
pub units_of_twelve : (negative : Bool) (before digits rest : List ℕ)
    → units_of Metre negative (before ++ twelve_of digits) rest ≡ units_with Metre negative (digits_value 10 before * 1_000_000_000_000 + digits_value 10 (twelve_of digits)) rest
units_of_twelve negative before digits rest =
    units_of_both Metre negative (before ++ twelve_of digits) rest
    ∙ ap (λ (n : ℕ). units_with Metre negative n rest) (value-append before (twelve_of digits) ∙ ap (λ (k : ℕ). digits_value 10 before * 10 ^ k + digits_value 10 (twelve_of digits)) (twelve digits))
