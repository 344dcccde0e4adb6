-- The two chains of a hull: corners in order that all bend one way, what lies within them, and a point that is put into one.
use Rattle.std.specs.Prelude.{ℕ, ◌+◌, ◌-◌, ◌<◌, ℤ, pos, neg_ℤ, ◌≤ℤ◌, ◌<ℤ◌, ◌≡◌, ◌⊎◌, List, length, Contains}
use Rattle.range_plane.specs.Edges.{at}
use Rattle.range_plane.specs.Order.{rank}
use Rattle.range_plane.specs.Plane.{Position, turn}
use Rattle.range_pieces.specs.PointList.{IsRising}
use Rattle.range_hull.specs.declared.side.Side.{Side}
use Rattle.range_hull.specs.declared.side.Side.TheVariants.{Lower, Upper}

-- positive where a, b, c bend the way that a chain of this side has to
abbrev pub bend : Side → Position → Position → Position → ℤ
bend Lower a b c = turn a b c
bend Upper a b c = neg_ℤ (turn a b c)

-- the corners rise, and every three of them bend the side's way
pub record IsChain (side : Side) (L : List Position) : Type 0 where
  pub rising : IsRising L
  pub convex : (i j k : ℕ) → i < j → j < k → k < length L → pos 0 <ℤ bend side (at L i) (at L j) (at L k)

-- q is a corner, or lies past a chord between two corners on the side to which the chain bends, or on the chord
pub data LiesWithin (side : Side) (L : List Position) (q : Position) : Type 0 where
  on_corner : (i : ℕ) → i < length L → q ≡ at L i → LiesWithin side L q
  on_chord : (i j : ℕ) → i < j → j < length L → rank (at L i) ≤ℤ rank q → rank q ≤ℤ rank (at L j) → pos 0 ≤ℤ bend side (at L i) (at L j) q → LiesWithin side L q

-- q comes before the first corner or after all, or lies strictly past an edge on the side from which the chain bends away
pub data IsBeyond (side : Side) (L : List Position) (q : Position) : Type 0 where
  before_first : rank q <ℤ rank (at L 0) → IsBeyond side L q
  after_all : ((i : ℕ) → i < length L → rank (at L i) <ℤ rank q) → IsBeyond side L q
  past_edge : (i : ℕ) → i + 1 < length L → pos 0 <ℤ bend side (at L i) q (at L (i + 1)) → IsBeyond side L q

-- M begins with p where p comes before all of L, and as L does elsewhere
abbrev pub BeginsAs : List Position → Position → List Position → Type 0
BeginsAs L p M = ((at M 0 ≡ p) × (0 < length L → rank p <ℤ rank (at L 0))) ⊎ ((at M 0 ≡ at L 0) × (0 < length L) × (rank (at L 0) ≤ℤ rank p))

-- M ends with p where p comes after all of L, and as L does elsewhere
abbrev pub EndsAs : List Position → Position → List Position → Type 0
EndsAs L p M =
    ((at M (length M - 1) ≡ p) × (0 < length L → rank (at L (length L - 1)) <ℤ rank p))
    ⊎ ((at M (length M - 1) ≡ at L (length L - 1)) × (0 < length L) × (rank p ≤ℤ rank (at L (length L - 1))))

-- the chain M is the chain L with p added
pub record Extends (side : Side) (L : List Position) (p : Position) (M : List Position) : Type 0 where
  pub chain : IsChain side M
  pub keeps : (q : Position) → LiesWithin side L q → LiesWithin side M q
  pub takes : LiesWithin side M p
  pub members : (q : Position) → Contains M q → (q ≡ p) ⊎ Contains L q
  pub first : BeginsAs L p M
  pub last : EndsAs L p M
