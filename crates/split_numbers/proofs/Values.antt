-- Values of digits, with others before them.
use Rattle.std.proofs.Common.{◌≡◌, ◌+◌, ◌*◌, ◌^◌, ◌<◌, ◌≤◌, ◌++◌, ◌∙◌, ℕ, Bool, true, false, not, nat_lt, eqb, List, [], ◌∷◌, length, inl, inr, sym, arith, refl, rules, tests}
use Rattle.std.specs.Char.{digit_value, is_ascii_digit}
use Rattle.std.specs.Int.{IsInRange}
use Rattle.std.specs.List.{list_all}
use Rattle.std.specs.Str.Parse.{AllDigits, digits_value, digits_value_after}
use Rattle.std.proofs.Math.Nat.{pow-suc}
use Rattle.std.proofs.lemmas.Bool.{and_parts, cases_eq, eq-eqb, ne_eqb}
use Rattle.std.proofs.lemmas.Int.Digits.{digits_value-lt}
use Rattle.std.proofs.lemmas.Str.{digit_value_digit}

step : (n d p after before : ℕ) → after ≡ (n * 10 + d) * p + before → (q value : ℕ) → q ≡ p * 10 → value ≡ (0 * 10 + d) * p + before → after ≡ n * q + value
step n d p after before e q value f g = rw (e, f, g) (omega arith)

-- digits after a number
pub value_after : (n : ℕ) (digits : List ℕ) → digits_value_after 10 n digits ≡ n * 10 ^ length digits + digits_value 10 digits
value_after n [] = omega arith
value_after n (d ∷ digits) =
    step n (digit_value d) (10 ^ length digits) (digits_value_after 10 (n * 10 + digit_value d) digits) (digits_value 10 digits) (value_after (n * 10 + digit_value d) digits)
    (10 ^ length (d ∷ digits)) (digits_value 10 (d ∷ digits)) (pow-suc 10 (length digits)) (value_after (0 * 10 + digit_value d) digits)

value_after-append : (n : ℕ) (xs ys : List ℕ) → digits_value_after 10 n (xs ++ ys) ≡ digits_value_after 10 (digits_value_after 10 n xs) ys
value_after-append n [] ys = refl
value_after-append n (x ∷ xs) ys = value_after-append (n * 10 + digit_value x) xs ys

-- digits with others before them
pub value-append : (xs ys : List ℕ) → digits_value 10 (xs ++ ys) ≡ digits_value 10 xs * 10 ^ length ys + digits_value 10 ys
value-append xs ys = value_after-append 0 xs ys ∙ value_after (digits_value 10 xs) ys

-- a digit, and those after it
pub value_of_first : (d : ℕ) (digits : List ℕ) → digits_value 10 (d ∷ digits) ≡ digit_value d * 10 ^ length digits + digits_value 10 digits
value_of_first d digits = rw (value_after (0 * 10 + digit_value d) digits) (omega arith)

all_digits : (bytes : List ℕ) → list_all is_ascii_digit bytes ≡ true → AllDigits 10 bytes
all_digits [] e = tt
all_digits (b ∷ bytes) e =
    let first : is_ascii_digit b ≡ true = (and_parts (is_ascii_digit b) (list_all is_ascii_digit bytes) e).0 in
    let range : IsInRange 48 57 b = search (rules, tests) in
    (omega (arith, digit_value_digit b range, range), all_digits bytes ((and_parts (is_ascii_digit b) (list_all is_ascii_digit bytes) e).1))

-- the value of digits is less than ten to their number
pub value_less : (digits : List ℕ) → list_all is_ascii_digit digits ≡ true → digits_value 10 digits < 10 ^ length digits
value_less digits e = digits_value-lt 10 digits (all_digits digits e)

-- digits that are more than zero still are with another one behind them
pub still_more : (value digit next : ℕ) (more : Bool) → more ≡ nat_lt 0 value → more ≡ true → next ≡ value * 10 + digit → more ≡ nat_lt 0 next
still_more value digit next more e t f =
    let known : nat_lt 0 value ≡ true = sym e ∙ t in
    let some : 0 < value = search (rules, tests) in
    let some_too : 0 < next = omega (arith, some, f) in
    let now : nat_lt 0 next ≡ true = search (rules, tests) in
    t ∙ sym now

-- zeros are more than zero with a byte behind them that is no zero
pub more_by_last : (value digit next byte : ℕ) (more : Bool) → more ≡ nat_lt 0 value → more ≡ false → next ≡ value * 10 + digit → digit + 48 ≡ byte
    → not (eqb byte 48) ≡ nat_lt 0 next
more_by_last value digit next byte more e t f g =
    let known : nat_lt 0 value ≡ false = sym e ∙ t in
    let zero : value ≤ 0 = search (rules, tests) in
    elim (cases_eq byte 48) [
      | inl same ↦
          let none : next ≤ 0 = omega (arith, zero, f, g, same) in
          let now : nat_lt 0 next ≡ false = search (rules, tests) in
          rw (eq-eqb byte 48 same, now) refl
      | inr other ↦
          let some : 0 < next = omega (arith, zero, f, g, other) in
          let now : nat_lt 0 next ≡ true = search (rules, tests) in
          rw (ne_eqb byte 48 other, now) refl
    ]
