-- Names of animals, and the first that stands earlier too.
use Rattle.std.specs.Prelude.{◌≡◌, ◌≢◌, ℕ, ◌<◌, List, [], length, slice_index_or, Option, Some, None}

-- the name at an index of a list of names
abbrev pub name_at : List (List ℕ) → ℕ → List ℕ
name_at names index = slice_index_or names index []

-- no two of the first n names are the same
abbrev pub DifferBefore : List (List ℕ) → ℕ → Type 0
DifferBefore names n = (i j : ℕ) → i < j → j < n → name_at names i ≢ name_at names j

-- the first repeat among names: the least index of a name that stands earlier too, and before it the index where
-- this name stands first; none where all names differ
abbrev pub IsFirstRepeat : List (List ℕ) → Option (ℕ × ℕ) → Type 0
IsFirstRepeat names None = DifferBefore names (length names)
IsFirstRepeat names (Some (first, second)) =
    (first < second) × (second < length names) × (name_at names first ≡ name_at names second) × DifferBefore names second
