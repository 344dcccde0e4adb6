-- The box of some points.
use Rattle.std.specs.Prelude.{ℤ, ◌≤ℤ◌, List, map, All, Contains}
use Rattle.range_plane.specs.Plane.{Position}
use Rattle.range_lanes.specs.declared.extent.Extent.{Extent}

-- the least of some numbers: a member that is at most all members
abbrev pub IsLeastCoordinate : List ℤ → ℤ → Type 0
IsLeastCoordinate xs m = Contains xs m × All (λ x. m ≤ℤ x) xs

-- the greatest of some numbers: a member that is at least all members
abbrev pub IsGreatest : List ℤ → ℤ → Type 0
IsGreatest xs m = Contains xs m × All (λ x. x ≤ℤ m) xs

-- the box of some points: the least and the greatest of their eastings, and of their northings
pub record IsExtent (points : List Position) (extent : Extent) : Type 0 where
  pub min_e : IsLeastCoordinate (map (λ p. p.e) points) extent.min_e
  pub min_n : IsLeastCoordinate (map (λ p. p.n) points) extent.min_n
  pub max_e : IsGreatest (map (λ p. p.e) points) extent.max_e
  pub max_n : IsGreatest (map (λ p. p.n) points) extent.max_n
