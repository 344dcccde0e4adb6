-- Digits of a number in groups of four.
use Rattle.std.specs.Prelude.{ℕ, Bool, List, [], ◌∷◌, ◌≡◌, ◌+◌, ◌-◌, ◌*◌, ◌^◌, ◌<◌, nat_lt, if◌then◌else◌, map, true, false}
use Rattle.std.specs.List.{AllZip, list_all}
use Rattle.std.specs.Char.{is_ascii_digit}

-- the number of a digit, and one above 9 for a byte that is none
abbrev pub IsDigit : ℕ → ℕ → Type 0
IsDigit byte number = (is_ascii_digit byte ≡ true → number ≡ byte - 48) × (is_ascii_digit byte ≡ false → 9 < number)

-- a number for each of some bytes
abbrev pub AreDigits : List ℕ → List ℕ → Type 0
AreDigits bytes numbers = AllZip IsDigit bytes numbers

-- whether all are the numbers of digits
abbrev pub are_small : List ℕ → Bool
are_small numbers = list_all (λ number. nat_lt number 10) numbers

-- what a one counts as each of the first four of n digits, but nothing as one of the last four
abbrev pub weights_before : ℕ → List ℕ
weights_before n = map (λ i. if nat_lt (i + 4) n then 10 ^ (n - 1 - i) else 0) (0 ∷ 1 ∷ 2 ∷ 3 ∷ [])

-- what a one counts as each of the last four digits
abbrev pub last_weights : List ℕ
last_weights = 1000 ∷ 100 ∷ 10 ∷ 1 ∷ []

-- the sum of numbers, each times its weight
abbrev pub weighted_sum : List ℕ → List ℕ → ℕ
weighted_sum (weight ∷ weights) (number ∷ numbers) = weight * number + weighted_sum weights numbers
weighted_sum weights numbers = 0
