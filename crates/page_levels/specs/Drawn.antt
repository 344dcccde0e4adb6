-- What the map draws of an animal.
use Rattle.std.specs.Prelude.{ℕ, ◌≡◌, List, length}
use Rattle.std.specs.List.{AllZip}
use Rattle.range_plane.specs.Plane.{Position}
use Rattle.range_plane.specs.Polygon.{IsPolygon}
use Rattle.range_stats.specs.Percent.{kept_count, nearest_points}
use Rattle.page_levels.specs.declared.levels.Drawn.{Drawn}

-- the points that a level keeps: so many per cent, rounded up, of those that lie nearest to the mean of all
abbrev pub kept_points : List Position → ℕ → List Position
kept_points points level = nearest_points points (kept_count level (length points))

-- these corners are those of the polygon of the points that a level keeps
abbrev pub IsPolygonAt : List Position → ℕ → List Position → Type 0
IsPolygonAt points level corners = IsPolygon (kept_points points level) corners

-- all points are drawn, in their order, and a polygon for each level
pub record IsDrawn (points : List Position) (levels : List ℕ) (drawn : Drawn) : Type 0 where
  pub polygons : AllZip (λ level polygon. IsPolygonAt points level polygon.items) levels drawn.polygons.items
  pub fixes : drawn.fixes.items ≡ points
