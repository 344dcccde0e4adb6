-- A list that is dealt to shares in turn.
use Rattle.std.specs.Prelude.{◌≡◌, ◌↔◌, ℕ, ◌/◌, ◌%◌, ◌<◌, List, length, slice_get, Some}

-- member i is member i / n of share i % n, where there are n shares; where the list has no member i that share has none there
abbrev pub AreDealt : {X : Type 0} → List X → List (List X) → Type 0
AreDealt {X} all shares = (i : ℕ) (share : List X) → slice_get shares (i % length shares) ≡ Some share → slice_get share (i / length shares) ≡ slice_get all i

-- each share has as many members as it has of a list of this many
abbrev pub AreSharesOf : {X : Type 0} → ℕ → List (List X) → Type 0
AreSharesOf {X} count shares = (i : ℕ) (share : List X) → slice_get shares (i % length shares) ≡ Some share → (i / length shares < length share) ↔ (i < count)
