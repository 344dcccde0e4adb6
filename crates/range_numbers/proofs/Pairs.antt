-- Numbers of 4 to 8 digits by their first four digits and their last four.
use Rattle.std.proofs.Common.{◌≡◌, ◌+◌, ◌-◌, ◌<◌, ◌≤◌, ◌&&◌, ℕ, Bool, false, true, List, [], ◌∷◌, length, map, nat_lt, refl, arith, tests, rules}
use lib.Lanes.{Each1, chunk}
use Rattle.std.specs.Char.{digit_value, is_ascii_digit}
use Rattle.std.specs.Int.{IsInRange}
use Rattle.std.specs.List.{list_all}
use Rattle.std.specs.Str.Parse.{digits_value}
use Rattle.std.proofs.lemmas.Bool.{and_parts}
use Rattle.std.proofs.lemmas.Simd.{Each1-chunk}
use Rattle.std.proofs.lemmas.Str.{digit_value_digit}
use Rattle.range_numbers.specs.Groups.{AreDigits, IsDigit, are_small, weighted_sum, last_weights, weights_before}
use Rattle.range_numbers.specs.Number.{is_number}
use Rattle.range_numbers.proofs.DigitWeights.{head_small, tail_small}

-- each byte is a digit
abbrev AllAre : List ℕ → Type 0
AllAre bytes = Each1 (λ byte. is_ascii_digit byte ≡ true) bytes

all_are : (bytes : List ℕ) → list_all is_ascii_digit bytes ≡ true → AllAre bytes
all_are [] e = tt
all_are (b ∷ bytes) e = ((and_parts (is_ascii_digit b) (list_all is_ascii_digit bytes) e).0, all_are bytes ((and_parts (is_ascii_digit b) (list_all is_ascii_digit bytes) e).1))

list_of_all : (bytes : List ℕ) → AllAre bytes → list_all is_ascii_digit bytes ≡ true
list_of_all [] h = refl
list_of_all (b ∷ bytes) h = rw (h.0, list_of_all bytes h.1) refl

-- a small number is that of a digit
digit_of_small : (byte number : ℕ) → IsDigit byte number → number ≤ 9 → is_ascii_digit byte ≡ true
digit_of_small byte number h small = by_digit (is_ascii_digit byte) refl
  where
    by_digit : (b : Bool) → is_ascii_digit byte ≡ b → is_ascii_digit byte ≡ true
    by_digit true e = e
    by_digit false e = absurd (omega (arith, h.1 e, small))

number_is : (byte number : ℕ) → IsDigit byte number → is_ascii_digit byte ≡ true → number ≡ digit_value byte
number_is byte number h e =
    let range : IsInRange 48 57 byte = search (rules, tests) in
    omega (arith, h.0 e, digit_value_digit byte range, range)

small_of_digit : (byte number : ℕ) → IsDigit byte number → is_ascii_digit byte ≡ true → nat_lt number 10 ≡ true
small_of_digit byte number h e =
    let range : IsInRange 48 57 byte = search (rules, tests) in
    let less : number < 10 = omega (arith, h.0 e, range) in
    search (rules, tests)

digits_of_small : (bytes numbers : List ℕ) → AreDigits bytes numbers → are_small numbers ≡ true → AllAre bytes
digits_of_small [] [] h e = tt
digits_of_small [] (n ∷ ns) h e = absurd h
digits_of_small (b ∷ bs) [] h e = absurd h
digits_of_small (b ∷ bs) (n ∷ ns) h e = (digit_of_small b n h.0 (head_small n ns e), digits_of_small bs ns h.1 (tail_small n ns e))

numbers_are : (bytes numbers : List ℕ) → AreDigits bytes numbers → AllAre bytes → numbers ≡ map digit_value bytes
numbers_are [] [] h a = refl
numbers_are [] (n ∷ ns) h a = absurd h
numbers_are (b ∷ bs) [] h a = absurd h
numbers_are (b ∷ bs) (n ∷ ns) h a = rw (number_is b n h.0 a.0, numbers_are bs ns h.1 a.1) refl

small_of_digits : (bytes numbers : List ℕ) → AreDigits bytes numbers → AllAre bytes → are_small numbers ≡ true
small_of_digits [] [] h a = refl
small_of_digits [] (n ∷ ns) h a = absurd h
small_of_digits (b ∷ bs) [] h a = absurd h
small_of_digits (b ∷ bs) (n ∷ ns) h a = rw (small_of_digit b n h.0 a.0, small_of_digits bs ns h.1 a.1) refl

-- what holds of the first four and of the last four holds of all
all_of_parts : (P : ℕ → Type 0) (bytes : List ℕ) → 4 ≤ length bytes → length bytes ≤ 8 → Each1 P (chunk 0 4 bytes) → Each1 P (chunk (length bytes - 4) 4 bytes)
    → Each1 P bytes
all_of_parts P (a ∷ b ∷ c ∷ d ∷ []) least most h k = h
all_of_parts P (a ∷ b ∷ c ∷ d ∷ e ∷ []) least most h k = (h.0, k)
all_of_parts P (a ∷ b ∷ c ∷ d ∷ e ∷ f ∷ []) least most h k = (h.0, (h.1.0, k))
all_of_parts P (a ∷ b ∷ c ∷ d ∷ e ∷ f ∷ g ∷ []) least most h k = (h.0, (h.1.0, (h.1.1.0, k)))
all_of_parts P (a ∷ b ∷ c ∷ d ∷ e ∷ f ∷ g ∷ i ∷ []) least most h k = (h.0, (h.1.0, (h.1.1.0, (h.1.1.1.0, k))))
all_of_parts P [] least most h k = absurd (omega (arith, least))
all_of_parts P (a ∷ []) least most h k = absurd (omega (arith, least))
all_of_parts P (a ∷ b ∷ []) least most h k = absurd (omega (arith, least))
all_of_parts P (a ∷ b ∷ c ∷ []) least most h k = absurd (omega (arith, least))
all_of_parts P (a ∷ b ∷ c ∷ d ∷ e ∷ f ∷ g ∷ i ∷ j ∷ rest) least most h k = absurd (omega (arith, most))

-- the value by the parts
value_of_parts : (bytes : List ℕ) → 4 ≤ length bytes → length bytes ≤ 8
    → weighted_sum (weights_before (length bytes)) (map digit_value (chunk 0 4 bytes)) + weighted_sum last_weights (map digit_value (chunk (length bytes - 4) 4 bytes))
    ≡ digits_value 10 bytes
value_of_parts (a ∷ b ∷ c ∷ d ∷ []) least most = omega arith
value_of_parts (a ∷ b ∷ c ∷ d ∷ e ∷ []) least most = omega arith
value_of_parts (a ∷ b ∷ c ∷ d ∷ e ∷ f ∷ []) least most = omega arith
value_of_parts (a ∷ b ∷ c ∷ d ∷ e ∷ f ∷ g ∷ []) least most = omega arith
value_of_parts (a ∷ b ∷ c ∷ d ∷ e ∷ f ∷ g ∷ i ∷ []) least most = omega arith
value_of_parts [] least most = absurd (omega (arith, least))
value_of_parts (a ∷ []) least most = absurd (omega (arith, least))
value_of_parts (a ∷ b ∷ []) least most = absurd (omega (arith, least))
value_of_parts (a ∷ b ∷ c ∷ []) least most = absurd (omega (arith, least))
value_of_parts (a ∷ b ∷ c ∷ d ∷ e ∷ f ∷ g ∷ i ∷ j ∷ rest) least most = absurd (omega (arith, most))

-- where all numbers are small the bytes are a number, and its value is the sum by weights
pub number_of_parts : (bytes first last : List ℕ) → 4 ≤ length bytes → length bytes ≤ 8 → AreDigits (chunk 0 4 bytes) first
    → AreDigits (chunk (length bytes - 4) 4 bytes) last → are_small first ≡ true → are_small last ≡ true
    → (is_number bytes ≡ true) × (weighted_sum (weights_before (length bytes)) first + weighted_sum last_weights last ≡ digits_value 10 bytes)
number_of_parts bytes first last least most h k e f =
    let a = digits_of_small (chunk 0 4 bytes) first h e in
    let b = digits_of_small (chunk (length bytes - 4) 4 bytes) last k f in
    let some : nat_lt 0 (length bytes) ≡ true = search (rules, tests) in (
      rw (some, list_of_all bytes (all_of_parts (λ byte. is_ascii_digit byte ≡ true) bytes least most a b)) refl,
      rw (numbers_are (chunk 0 4 bytes) first h a, numbers_are (chunk (length bytes - 4) 4 bytes) last k b) (value_of_parts bytes least most),
    )

-- and where some are not the bytes are none
pub no_number_of_parts : (bytes first last : List ℕ) → AreDigits (chunk 0 4 bytes) first → AreDigits (chunk (length bytes - 4) 4 bytes) last
    → (are_small first && are_small last) ≡ false → is_number bytes ≡ false
no_number_of_parts bytes first last h k e = by_number (is_number bytes) refl
  where
    by_number : (b : Bool) → is_number bytes ≡ b → is_number bytes ≡ false
    by_number false n = n
    by_number true n =
        let all = all_are bytes ((and_parts (nat_lt 0 (length bytes)) (list_all is_ascii_digit bytes) n).1) in
        let small = small_of_digits (chunk 0 4 bytes) first h (Each1-chunk _ 0 4 bytes all) in
        let small_too = small_of_digits (chunk (length bytes - 4) 4 bytes) last k (Each1-chunk _ (length bytes - 4) 4 bytes all) in
        cc (e, small, small_too)
