-- A table that grows by a fix at a time.
use Rattle.std.specs.Prelude.{ℕ, ◌+◌, ◌-◌, ◌≡◌, List, length, min, vec_capacity, vec_len}
use Rattle.std.specs.Simd.Lanes.{zip2}
use Rattle.range_plane.specs.Plane.{Position}
use Rattle.range_plane.specs.declared.fix.Fix.{Fix}
use Rattle.range_estimator.specs.declared.row.Row.{Row}
use Rattle.range_estimator.specs.declared.table.Table.{Table}
use Rattle.range_estimator.specs.Estimation.{IsEstimate}

abbrev pub fix_at : Row → Position → Fix
fix_at row point = record { second = row.second; at = point }

-- the fixes that have these rows and points
abbrev pub fixes_of : List Row → List Position → List Fix
fixes_of rows points = zip2 fix_at rows points

abbrev pub fixes_in : {A : Type 0} → Table A → List Fix
fixes_in table = fixes_of table.rows.items table.columns.points

-- how many more fixes there is room for
abbrev pub spare_of : {A : Type 0} → Table A → ℕ
spare_of table = min (min table.columns.spare table.hull.spare) (vec_capacity table.rows - vec_len table.rows)

-- what is true of the table of every estimator
pub record IsSoundTable {A : Type 0} (table : Table A) : Type 0 where
  pub count : length table.rows.items ≡ length table.columns.points
  pub counted : table.hull.inserted + table.hull.skipped ≡ length table.rows.items
  pub estimate : IsEstimate (fixes_in table) table.rows.items table.hull.corners
