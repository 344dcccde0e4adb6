-- What an estimator makes of fixes: their table of incremental area analysis and their polygon.
use Rattle.std.specs.Prelude.{ℕ, ◌+◌, ◌≡◌, Bool, List, length, slice_get, Some}
use Rattle.range_plane.specs.Plane.{Position}
use Rattle.range_plane.specs.Polygon.{IsPolygon}
use Rattle.range_plane.specs.Row.{IsRow, points_of}
use Rattle.range_plane.specs.declared.fix.Fix.{Fix}
use Rattle.range_estimator.specs.declared.row.Row.{Row}

-- the table of the fixes: a row for each of them, which is that of the fixes up to it
pub record IsTable (fixes : List Fix) (rows : List Row) : Type 0 where
  pub count : length rows ≡ length fixes
  pub each : (index : ℕ) (row : Row) → slice_get rows index ≡ Some row → IsRow fixes (index + 1) row.second row.corners row.area2

-- the rows are the table of the fixes, and the corners their polygon
pub record IsEstimate (fixes : List Fix) (rows : List Row) (corners : List Position) : Type 0 where
  pub table : IsTable fixes rows
  pub polygon : IsPolygon (points_of fixes) corners

-- what contracts see of an estimator: the fixes taken, their rows and corners, how many fixes were tested for a new corner, and whether it has stopped
pub record Estimation : Type 0 where
  pub fixes : List Fix
  pub rows : List Row
  pub corners : List Position
  pub tested : ℕ
  pub stopped : Bool
