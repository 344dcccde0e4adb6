-- Values of few digits.
use Rattle.std.proofs.Common.{◌≡◌, ◌^◌, ◌<◌, ◌≤◌, ℕ, true, nat_lt, List, [], ◌∷◌, length, arith, rules, tests}
use Rattle.std.specs.Char.{is_ascii_digit}
use Rattle.std.specs.Int.{IsInRange}
use Rattle.std.specs.List.{list_all}
use Rattle.std.specs.Str.Parse.{AllDigits, digits_value}
use Rattle.std.proofs.Math.Nat.{pow-le-pow_right}
use Rattle.std.proofs.lemmas.Bool.{and_parts}
use Rattle.std.proofs.lemmas.Int.Digits.{digits_value-lt}
use Rattle.std.proofs.lemmas.Str.{digit_value_digit}
use Rattle.range_numbers.specs.Number.{is_number}

all_digits : (bytes : List ℕ) → list_all is_ascii_digit bytes ≡ true → AllDigits 10 bytes
all_digits [] e = tt
all_digits (b ∷ bytes) e =
    let first : is_ascii_digit b ≡ true = (and_parts (is_ascii_digit b) (list_all is_ascii_digit bytes) e).0 in
    let range : IsInRange 48 57 b = search (rules, tests) in
    (omega (arith, digit_value_digit b range, range), all_digits bytes ((and_parts (is_ascii_digit b) (list_all is_ascii_digit bytes) e).1))

-- a number is less than ten to the number of its digits
pub number_less : (digits : List ℕ) → is_number digits ≡ true → digits_value 10 digits < 10 ^ length digits
number_less digits e = digits_value-lt 10 digits (all_digits digits ((and_parts (nat_lt 0 (length digits)) (list_all is_ascii_digit digits) e).1))

-- one of at most nine is below a thousand millions
pub nine_digits : (digits : List ℕ) → is_number digits ≡ true → length digits ≤ 9 → digits_value 10 digits < 10 ^ 9
nine_digits digits e few =
    let most : 10 ^ length digits ≤ 10 ^ 9 = pow-le-pow_right {n = 10} (omega arith) {i = length digits} {j = 9} few in
    omega (arith, number_less digits e, most)
