-- The values of at most nine digits.
use Rattle.std.proofs.Common.{◌≡◌, ◌+◌, ◌^◌, ◌≤◌, ◌<◌, ℕ, true, false, List, [], ◌∷◌, Option, Some, None, length, min, nat_lt, refl, ap, arith, tests, rules, IfSome}
use Rattle.std.specs.Char.{is_ascii_digit}
use Rattle.std.specs.Int.{IsInRange}
use Rattle.std.specs.List.{list_all}
use Rattle.std.specs.Option.{MatchOption}
use Rattle.std.specs.Str.Parse.{AllDigits, digits_value}
use Rattle.std.proofs.Math.Nat.{pow-le-pow_right}
use Rattle.std.proofs.lemmas.Bool.{and_parts}
use Rattle.std.proofs.lemmas.Bool.Decides.{nat_tests}
use Rattle.std.proofs.lemmas.Int.Digits.{digits_value-lt}
use Rattle.std.proofs.lemmas.Str.{digit_value_digit}
use Rattle.range_numbers.specs.Number.{is_number}
use Rattle.page_boundary.specs.Points.{digits_in}

all_digits : (text : List ℕ) → list_all is_ascii_digit text ≡ true → AllDigits 10 text
all_digits [] e = tt
all_digits (b ∷ text) e =
    let first : is_ascii_digit b ≡ true = (and_parts (is_ascii_digit b) (list_all is_ascii_digit text) e).0 in
    let range : IsInRange 48 57 b = search (rules, tests) in
    (omega (arith, digit_value_digit b range, range), all_digits text ((and_parts (is_ascii_digit b) (list_all is_ascii_digit text) e).1))

value_of_few : (text : List ℕ) → is_number text ≡ true → length text ≤ 9 → digits_value 10 text < 1000000000
value_of_few text e few =
    let less = digits_value-lt 10 text (all_digits text ((and_parts (nat_lt 0 (length text)) (list_all is_ascii_digit text) e).1)) in
    let most : 10 ^ length text ≤ 10 ^ 9 = pow-le-pow_right {n = 10} (omega arith) {i = length text} {j = 9} few in
    omega (arith, less, most)

-- a value that is exact up to the greatest number of nine digits
pub value_found : (most : ℕ) (text : List ℕ) (found : Option ℕ) → most ≤ 9 → length text ≤ most
    → MatchOption found (is_number text ≡ false)
    (λ value. (is_number text ≡ true) × (min (999999999 + 1) value ≡ min (999999999 + 1) (digits_value 10 text)))
    → (found ≡ digits_in most text) × IfSome found (λ value. value ≤ 999999999)
value_found most text None few short none = (rw none refl, tt)
value_found most text (Some value) few short own =
    let less = value_of_few text own.0 (omega (arith, few, short)) in
    let is : value ≡ digits_value 10 text = omega (arith, less, own.1) in
    let test : nat_lt most (length text) ≡ false = grind (arith, nat_tests, short) in
    (rw (own.0, test) (ap Some is), omega (arith, less, is))
