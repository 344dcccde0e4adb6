-- The table of incremental area analysis (Harris et al. 1990): the range after each consecutive fix.
use Rattle.std.specs.Prelude.{ℕ, ◌-◌, ◌≤◌, ◌≡◌, pos, List, length, map, take, slice_get, Some, option_map}
use Rattle.range_plane.specs.Plane.{Position}
use Rattle.range_plane.specs.Polygon.{IsPolygon, area2}
use Rattle.range_plane.specs.declared.fix.Fix.{Fix}

-- the points of some fixes, in order
abbrev pub points_of : List Fix → List Position
points_of fixes = map (λ fix. fix.at) fixes

-- the row of the first n fixes: the second of the last of them, and how many corners and which doubled area their polygon has
pub record IsRow (fixes : List Fix) (n second corners area : ℕ) : Type 0 where
  pub some : 1 ≤ n
  pub last : option_map (λ fix. fix.second) (slice_get fixes (n - 1)) ≡ Some second
  pub polygon : (L : List Position) × IsPolygon (points_of (take n fixes)) L × (length L ≡ corners) × (area2 L ≡ pos area)
