-- The minimum convex polygon of a set of positions (Mohr 1947), and its doubled area.
use Rattle.std.specs.Prelude.{ℕ, ◌<◌, ℤ, pos, ◌+ℤ◌, ◌-ℤ◌, ◌*ℤ◌, ◌<ℤ◌, ◌≢◌, ◌↔◌, ⊤, List, [], ◌∷◌, length, slice_index_or, Contains, AllPairs, Bool}
use Rattle.std.specs.Prelude.{if◌then◌else◌, ◌&&◌, not}
use Rattle.std.specs.List.{list_any}
use Rattle.std.specs.Ordering.{int_eq}
use Rattle.range_plane.specs.ConvexCover.{Covers}
use Rattle.range_plane.specs.Plane.{Position, turn, IsAtMost}

-- whether two positions have the same easting and the same northing
abbrev pub same_position : Position → Position → Bool
same_position a b = int_eq a.e b.e && int_eq a.n b.n

-- the members of a set other than p
abbrev pub without : Position → List Position → List Position
without p [] = []
without p (s ∷ S) = if same_position s p then without p S else s ∷ without p S

-- whether a member other than p passes a test
abbrev pub any_other : Position → (Position → Bool) → List Position → Bool
any_other p test S = list_any (λ s. not (same_position s p) && test s) S

-- p is a member of S that S without it does not cover
pub record IsExtreme (S : List Position) (p : Position) : Type 0 where
  pub member : Contains S p
  pub needed : ¬ (Covers (without p S) p)

-- the first member by easting and then by northing
pub record IsLeast (S : List Position) (c : Position) : Type 0 where
  pub member : Contains S c
  pub least : (x : Position) → Contains S x → IsAtMost c x

-- the first member is the least of all, by easting and then by northing, if there is one
abbrev pub BeginsWithLeast : List Position → Type 0
BeginsWithLeast [] = ⊤
BeginsWithLeast (c ∷ L) = (x : Position) → Contains (c ∷ L) x → IsAtMost c x

-- every three members in list order turn strictly left
abbrev pub TurnsLeft : List Position → Type 0
TurnsLeft L = (i j k : ℕ) (d : Position) → i < j → j < k → k < length L → pos 0 <ℤ turn (slice_index_or L i d) (slice_index_or L j d) (slice_index_or L k d)

-- L lists the corners of the minimum convex polygon of S counterclockwise, from the westernmost, of these the
-- southernmost
pub record IsPolygon (S L : List Position) : Type 0 where
  pub corners : (p : Position) → Contains L p ↔ IsExtreme S p
  pub distinct : AllPairs (λ a b. a ≢ b) L
  pub least_first : BeginsWithLeast L
  pub convex : TurnsLeft L

-- the sum of a.e*b.n - b.e*a.n over each corner and the next one, from the last back to `first`
abbrev pub shoelace : Position → List Position → ℤ
shoelace first [] = pos 0
shoelace first (a ∷ []) = a.e *ℤ first.n -ℤ first.e *ℤ a.n
shoelace first (a ∷ b ∷ L) = (a.e *ℤ b.n -ℤ b.e *ℤ a.n) +ℤ shoelace first (b ∷ L)

-- twice the area within the corners L: 0 below three corners
abbrev pub area2 : List Position → ℤ
area2 [] = pos 0
area2 (a ∷ []) = pos 0
area2 (a ∷ b ∷ []) = pos 0
area2 (a ∷ b ∷ c ∷ L) = shoelace a (a ∷ b ∷ c ∷ L)
