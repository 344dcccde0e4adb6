-- Parts of a line, and the numbers that they write.
use Rattle.std.specs.Prelude.{ℕ, Bool, true, ◌==◌, ◌+◌, ◌&&◌, ◌||◌, not, nat_lt, if◌then◌else◌, List, [], ◌∷◌, length, take, drop, Option, Some, None, option_map}
use Rattle.std.specs.List.{position}
use Rattle.std.specs.Str.{bytes_eq}
use Rattle.std.specs.Str.Parse.{digits_value}
use Rattle.range_numbers.specs.Number.{is_number}

-- what is found, and then what is found by it
infixl 10 ◌>>=◌
abbrev pub ◌>>=◌ : {A B : Type 0} → Option A → (A → Option B) → Option B
(Some x) >>= f = f x
None >>= f = None

-- what stands before the first of this byte, and what stands behind it
unfoldable pub cut : ℕ → List ℕ → Option (List ℕ × List ℕ)
cut byte text = option_map (λ end. (take end text, drop (end + 1) text)) (position (λ own. own == byte) text)

-- what stands behind a word with which a text begins
unfoldable pub behind : List ℕ → List ℕ → Option (List ℕ)
behind word text = if bytes_eq (take (length word) text) word then Some (drop (length word) text) else None

-- whether digits have no zero before them
abbrev pub is_plain : List ℕ → Bool
is_plain [] = true
is_plain (digit ∷ digits) = not (digit == 48) || length digits == 0

-- the number that a text is as reports write it, which is at most so great
unfoldable pub number_up_to : ℕ → List ℕ → Option ℕ
number_up_to most text =
    if is_plain text && is_number text && not (nat_lt most (digits_value 10 text)) then Some (digits_value 10 text) else None

-- a number that is at most so great and stands before the first comma, and what stands behind that
abbrev pub numbered : ℕ → List ℕ → Option (ℕ × List ℕ)
numbered most text = do
  parts ← cut 44 text
  number ← number_up_to most parts.0
  Some (number, parts.1)
