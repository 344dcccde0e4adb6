-- Rows of overlap as they are made: from the points of animals that are known by their boxes and polygons.
use Rattle.std.specs.Prelude.{ℕ, int_lt, Bool, ◌||◌, List, length, map}
use Rattle.range_plane.specs.Plane.{Position}
use Rattle.range_plane.specs.Polygon.{IsPolygon}
use Rattle.range_lanes.specs.Extent.{IsExtent}
use Rattle.range_lanes.specs.declared.extent.Extent.{Extent}
use Rattle.range_stats.specs.Overlap.{overlap}
use Rattle.range_analysis.specs.Animals.{points_at}
use Rattle.range_analysis.specs.declared.animal.OverlapRow.{OverlapRow}
use Rattle.range_analysis.specs.declared.measured.Measured.{Measured}

-- one box ends before the other begins, from west to east
abbrev pub are_apart_by_easting : Extent → Extent → Bool
are_apart_by_easting a b = int_lt a.max_e b.min_e || int_lt b.max_e a.min_e

-- from south to north
abbrev pub are_apart_by_northing : Extent → Extent → Bool
are_apart_by_northing a b = int_lt a.max_n b.min_n || int_lt b.max_n a.min_n

-- the box and the polygon are those of the points
pub record IsKnown (measured : Measured) : Type 0 where
  pub extent : IsExtent measured.fixes.points measured.animal.extent
  pub polygon : IsPolygon measured.fixes.points measured.animal.polygon

-- the points of each animal's fixes
abbrev pub points_of_each : List Measured → List (List Position)
points_of_each measured = map (λ m. m.fixes.points) measured

-- the row of two animals by their indexes
abbrev pub row_of : List (List Position) → ℕ × ℕ → OverlapRow
row_of fixes pair = record {
  animal = pair.0;
  range = pair.1;
  count = overlap (points_at fixes pair.0) (points_at fixes pair.1);
  fixes = length (points_at fixes pair.0);
}
