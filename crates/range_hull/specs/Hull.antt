-- A hull as its two chains, and as the list of its corners.
use Rattle.std.specs.Prelude.{ℕ, ◌+◌, ◌-◌, ◌*◌, ◌<◌, ◌≤◌, pos, ◌+ℤ◌, ◌≡◌, List, ◌++◌, length, take, drop, reverse}
use Rattle.range_plane.specs.Edges.{at}
use Rattle.range_plane.specs.Fix.{fix_limit}
use Rattle.range_plane.specs.Plane.{Position, IsWithinLimits}
use Rattle.range_hull.specs.declared.side.Side.TheVariants.{Lower, Upper}
use Rattle.range_hull.specs.Area.{sweep_of}
use Rattle.range_hull.specs.Chain.{IsChain}
use Rattle.range_hull.specs.Tally.{Count}

-- what contracts see of a hull: its corners as a polygon lists them, how many points were inserted and skipped, how often inserts evaluated `turn`, and how
-- many inserts there is room for
pub record Hull : Type 0 where
  pub corners : List Position
  pub inserted : ℕ
  pub skipped : ℕ
  pub turns : ℕ
  pub spare : ℕ

-- the corners between the first and the last
abbrev pub inner_corners : List Position → List Position
inner_corners U = take (length U - 2) (drop 1 U)

-- the corners counterclockwise from the least: along the lower chain, and back along the upper one
abbrev pub corners_of : List Position → List Position → List Position
corners_of L U = L ++ reverse (inner_corners U)

-- L and U are the lower and the upper chain of one polygon
pub record AreChains (L U : List Position) : Type 0 where
  pub lower : IsChain Lower L
  pub upper : IsChain Upper U
  pub lower_empty : length U ≡ 0 → length L ≡ 0
  pub upper_empty : length L ≡ 0 → length U ≡ 0
  pub first : at L 0 ≡ at U 0
  pub last : at L (length L - 1) ≡ at U (length U - 1)
  pub lower_limits : (i : ℕ) → i < length L → IsWithinLimits (at L i)
  pub upper_limits : (i : ℕ) → i < length U → IsWithinLimits (at U i)

-- what is true of every hull: each insert pays for at most eight turns and corners of chains
pub record IsSoundHull (L U : List Position) (inserted skipped : ℕ) (count : Count) : Type 0 where
  pub chains : AreChains L U
  pub few : inserted + skipped ≤ fix_limit
  pub paid : count.turns + length L + length U ≤ 8 * inserted
  pub area : pos count.area ≡ sweep_of Lower L +ℤ sweep_of Upper U
