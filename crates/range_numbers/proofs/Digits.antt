-- Digits of a number in groups of four.
use Rattle.std.proofs.Common.{rules, ◌≡◌, ◌⊎◌, ◌+◌, false, length, true, ℕ, ◌-◌, ◌<◌, ◌%◌, ◌^◌, List, [], ◌∷◌, map, Fits, w8, arith, tests, suc, slice_index_or}
use lib.Lanes.{zip2, Each1}
use lib.ListN.{replicate}
use Rattle.std.specs.Char.{is_ascii_digit}
use Rattle.std.specs.Int.{IsInRange}
use Rattle.range_numbers.specs.Groups.{AreDigits, IsDigit}

-- the difference of 32 bits
abbrev pub less_48 : ℕ → ℕ
less_48 x = (x + (2 ^ 32 - 48)) % 2 ^ 32

digit : (x : ℕ) → x < 256 → is_ascii_digit x ≡ true → less_48 x ≡ x - 48
digit x h e =
    let range : IsInRange 48 57 x = search (rules, tests) in
    omega (arith, h, range)

no_digit : (x : ℕ) → x < 256 → is_ascii_digit x ≡ false → 9 < less_48 x
no_digit x h e =
    let out : (x < 48) ⊎ (57 < x) = search (rules, tests) in
    omega (arith, h, out)

-- in 32 bits, a byte less 48 is the number of a digit, and above 9 for a byte that is none
pub digit_number : (x : ℕ) → Fits w8 x → IsDigit x (less_48 x)
digit_number x h = (digit x (h.fits), no_digit x (h.fits))

-- bytes that fit one by one
pub each_byte : (xs : List ℕ) → ((i : ℕ) → Fits w8 (slice_index_or xs i 0)) → Each1 (Fits w8) xs
each_byte [] h = tt
each_byte (x ∷ xs) h = (h 0, each_byte xs (λ i. h (suc i)))

-- operations on each byte that give the number of a digit, done on many
digit_numbers : (f : ℕ → ℕ) (g : ℕ → ℕ → ℕ) → ((x : ℕ) → Fits w8 x → IsDigit x (g (f x) 48)) → (xs : List ℕ) → Each1 (Fits w8) xs
    → AreDigits xs (zip2 g (map f xs) (replicate (length xs) 48))
digit_numbers f g s [] h = tt
digit_numbers f g s (x ∷ xs) h = (s x h.0, digit_numbers f g s xs h.1)

-- the same of four
pub four_digits : (f : ℕ → ℕ) (g : ℕ → ℕ → ℕ) → ((x : ℕ) → Fits w8 x → IsDigit x (g (f x) 48)) → (xs : List ℕ) → length xs ≡ 4 → Each1 (Fits w8) xs
    → AreDigits xs (zip2 g (map f xs) (48 ∷ 48 ∷ 48 ∷ 48 ∷ []))
four_digits f g s xs four h = rw four at (digit_numbers f g s xs h)
