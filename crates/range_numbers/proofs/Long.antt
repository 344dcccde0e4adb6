-- Numbers whose last eight digits are read by themselves.
use Rattle.std.proofs.Common.{◌≡◌, ◌+◌, ◌*◌, ◌^◌, ◌<◌, ◌≤◌, ◌++◌, ◌∙◌, ℕ, true, List, [], ◌∷◌, length, nat_lt, refl, arith, tests, rules}
use Rattle.std.specs.Char.{digit_value, is_ascii_digit}
use Rattle.std.specs.Int.{IsInRange}
use Rattle.std.specs.List.{list_all}
use Rattle.std.specs.Str.Parse.{AllDigits, digits_value, digits_value_after}
use Rattle.std.proofs.Math.Nat.{pow-le-pow_right}
use Rattle.std.proofs.lemmas.Bool.{and_parts}
use Rattle.std.proofs.lemmas.Int.Digits.{digits_value-lt}
use Rattle.std.proofs.lemmas.List.{length-append}
use Rattle.std.proofs.lemmas.List.Folds.{list_all-append}
use Rattle.std.proofs.lemmas.Str.{digit_value_digit}
use Rattle.range_numbers.specs.Number.{is_number}

all_digits : (bytes : List ℕ) → list_all is_ascii_digit bytes ≡ true → AllDigits 10 bytes
all_digits [] e = tt
all_digits (b ∷ bytes) e =
    let first : is_ascii_digit b ≡ true = (and_parts (is_ascii_digit b) (list_all is_ascii_digit bytes) e).0 in
    let range : IsInRange 48 57 b = search (rules, tests) in
    (omega (arith, digit_value_digit b range, range), all_digits bytes ((and_parts (is_ascii_digit b) (list_all is_ascii_digit bytes) e).1))

-- at most eight digits
pub value_of_few : (bytes : List ℕ) → is_number bytes ≡ true → length bytes ≤ 8 → digits_value 10 bytes < 100000000
value_of_few bytes e few =
    let less = digits_value-lt 10 bytes (all_digits bytes ((and_parts (nat_lt 0 (length bytes)) (list_all is_ascii_digit bytes) e).1)) in
    let most : 10 ^ length bytes ≤ 10 ^ 8 = pow-le-pow_right {n = 10} (omega arith) {i = length bytes} {j = 8} few in
    omega (arith, less, most)

after_value : (n : ℕ) (ys : List ℕ) → length ys ≡ 8 → digits_value_after 10 n ys ≡ n * 100000000 + digits_value 10 ys
after_value n (a ∷ b ∷ c ∷ d ∷ e ∷ f ∷ g ∷ h ∷ []) eight = omega arith
after_value n [] eight = cc eight
after_value n (a ∷ []) eight = cc eight
after_value n (a ∷ b ∷ []) eight = cc eight
after_value n (a ∷ b ∷ c ∷ []) eight = cc eight
after_value n (a ∷ b ∷ c ∷ d ∷ []) eight = cc eight
after_value n (a ∷ b ∷ c ∷ d ∷ e ∷ []) eight = cc eight
after_value n (a ∷ b ∷ c ∷ d ∷ e ∷ f ∷ []) eight = cc eight
after_value n (a ∷ b ∷ c ∷ d ∷ e ∷ f ∷ g ∷ []) eight = cc eight
after_value n (a ∷ b ∷ c ∷ d ∷ e ∷ f ∷ g ∷ h ∷ i ∷ rest) eight = absurd (omega (arith, eight))

value_after-append : (n : ℕ) (xs ys : List ℕ) → digits_value_after 10 n (xs ++ ys) ≡ digits_value_after 10 (digits_value_after 10 n xs) ys
value_after-append n [] ys = refl
value_after-append n (x ∷ xs) ys = value_after-append (n * 10 + digit_value x) xs ys

-- the value of digits with eight more after them
pub value_of_both : (xs ys : List ℕ) → length ys ≡ 8 → digits_value 10 (xs ++ ys) ≡ digits_value 10 xs * 100000000 + digits_value 10 ys
value_of_both xs ys eight =
    value_after-append 0 xs ys ∙ after_value (digits_value 10 xs) ys eight

-- a number with another after it is a number
pub number_of_both : (xs ys : List ℕ) → is_number xs ≡ true → is_number ys ≡ true → is_number (xs ++ ys) ≡ true
number_of_both xs ys e f =
    let left = (and_parts (nat_lt 0 (length xs)) (list_all is_ascii_digit xs) e).0 in
    let some : 0 < length xs = search (rules, tests) in
    let more : 0 < length (xs ++ ys) = omega (arith, some, length-append xs ys) in
    let long : nat_lt 0 (length (xs ++ ys)) ≡ true = search (rules, tests) in
    rw (
      long,
      list_all-append is_ascii_digit xs ys,
      (and_parts (nat_lt 0 (length xs)) (list_all is_ascii_digit xs) e).1,
      (and_parts (nat_lt 0 (length ys)) (list_all is_ascii_digit ys) f).1,
    ) refl
