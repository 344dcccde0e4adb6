-- Names and other words, numbered in the order in which they first came.
use Rattle.std.specs.Prelude.{ℕ, List, [], ◌∷◌, ◌++◌, Vec, map, if◌then◌else◌}
use Rattle.std.specs.List.{list_any, position_or_len}
use Rattle.std.specs.Str.{bytes_eq}
use Rattle.indexmap.specs.IndexSet.{IndexSet}

-- the words of a set, in order
abbrev pub texts : {A S : Type 0} → IndexSet (Vec ℕ A) S → List (List ℕ)
texts set = map (λ word. word.items) set.keys

-- the number that a word has: its place, or that behind all others
abbrev pub place_of : List (List ℕ) → List ℕ → ℕ
place_of words word = position_or_len (bytes_eq word) words

-- words and one more, where it is not among them
abbrev pub with_word : List (List ℕ) → List ℕ → List (List ℕ)
with_word words word = if list_any (bytes_eq word) words then words else words ++ (word ∷ [])
