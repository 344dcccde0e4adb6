-- The tables of an animal, and the overlap of two.
use Rattle.std.specs.Prelude.{◌≡◌, ◌==◌, ℕ, not, List, [], length, map, slice_index_or}
use Rattle.std.specs.List.{AllZip, filter, flat_map, range_with_len}
use Rattle.range_plane.specs.Plane.{Position}
use Rattle.range_plane.specs.Polygon.{IsPolygon}
use Rattle.range_plane.specs.Row.{points_of}
use Rattle.range_plane.specs.declared.fix.Fix.{Fix}
use Rattle.range_lanes.specs.Extent.{IsExtent}
use Rattle.range_stats.specs.Overlap.{overlap}
use Rattle.range_stats.specs.Percent.{IsPercentRow}
use Rattle.range_estimator.specs.Estimation.{IsTable}
use Rattle.range_analysis.specs.declared.animal.Animal.{Animal}
use Rattle.range_analysis.specs.declared.animal.OverlapRow.{OverlapRow}

-- the animal with this name, and the box, the table, the polygon and the percent polygons at these levels of these
-- fixes
pub record IsAnimal (levels : List ℕ) (name : List ℕ) (fixes : List Fix) (animal : Animal) : Type 0 where
  pub same_name : animal.name ≡ name
  pub box : IsExtent (points_of fixes) animal.extent
  pub table : IsTable fixes animal.rows
  pub polygon : IsPolygon (points_of fixes) animal.polygon
  pub percents : AllZip (IsPercentRow (points_of fixes)) levels animal.percents

-- the indexes below n other than i
abbrev pub other_animals : ℕ → ℕ → List ℕ
other_animals n i = filter (λ j. not (i == j)) (range_with_len 0 n)

-- the ordered pairs of different indexes below n, by the first and then by the second
abbrev pub pairs : ℕ → List (ℕ × ℕ)
pairs n = flat_map (λ i. map (λ j. (i, j)) (other_animals n i)) (range_with_len 0 n)

-- the points of the animal at an index, where these are the points of each animal
abbrev pub points_at : List (List Position) → ℕ → List Position
points_at points index = slice_index_or points index []

-- the row of an ordered pair of animals, where these are the points of each: how many fixes of the first the points of
-- the second cover, and how many fixes the first has
pub record IsOverlap (points : List (List Position)) (pair : ℕ × ℕ) (row : OverlapRow) : Type 0 where
  pub animal : row.animal ≡ pair.0
  pub range : row.range ≡ pair.1
  pub count : row.count ≡ overlap (points_at points pair.0) (points_at points pair.1)
  pub fixes : row.fixes ≡ length (points_at points pair.0)
