-- What an analysis may have so that its report is read back.
use Rattle.std.specs.Prelude.{◌≡◌, ◌≤◌, ℕ, true, All, length, map}
use Rattle.range_estimator.specs.declared.row.Row.{Row}
use Rattle.range_fixes.specs.Field.{is_name}
use Rattle.range_lanes.specs.declared.extent.Extent.{Extent}
use Rattle.range_plane.specs.Plane.{IsCoordinate, IsWithinLimits}
use Rattle.range_stats.specs.declared.percents.PercentRow.{PercentRow}
use Rattle.range_analysis.specs.Animals.{pairs}
use Rattle.range_analysis.specs.declared.analysis.Analysis.{Analysis}
use Rattle.range_analysis.specs.declared.animal.Animal.{Animal}
use Rattle.range_analysis.specs.declared.animal.OverlapRow.{OverlapRow}
use Rattle.page_report.specs.declared.fields.TheConstants.{MOST, MOST_COUNT, MOST_LEVEL}

-- the numbers of a row may stand in a report
pub record IsRowWithin (row : Row) : Type 0 where
  pub second : row.second ≤ MOST
  pub corners : row.corners ≤ MOST_COUNT
  pub area2 : row.area2 ≤ MOST

-- those of a percent polygon
pub record IsPercentWithin (row : PercentRow) : Type 0 where
  pub level : row.level ≤ MOST_LEVEL
  pub kept : row.kept ≤ MOST_COUNT
  pub corners : row.corners ≤ MOST_COUNT
  pub area2 : row.area2 ≤ MOST

-- those of a box
pub record IsExtentWithin (extent : Extent) : Type 0 where
  pub west : IsCoordinate extent.min_e
  pub south : IsCoordinate extent.min_n
  pub east : IsCoordinate extent.max_e
  pub north : IsCoordinate extent.max_n

-- those of an overlap
pub record IsOverlapWithin (row : OverlapRow) : Type 0 where
  pub count : row.count ≤ MOST_COUNT
  pub fixes : row.fixes ≤ MOST_COUNT

-- an animal has a name, and numbers that may stand in a report
pub record IsAnimalWithin (animal : Animal) : Type 0 where
  pub named : is_name animal.name ≡ true
  pub extent : IsExtentWithin animal.extent
  pub few_rows : length animal.rows ≤ MOST_COUNT
  pub rows : All IsRowWithin animal.rows
  pub few_corners : length animal.polygon ≤ MOST_COUNT
  pub corners : All IsWithinLimits animal.polygon
  pub percents : All IsPercentWithin animal.percents

-- the animals of an overlap
abbrev pub pair_of : OverlapRow → ℕ × ℕ
pair_of row = (row.animal, row.range)

-- an analysis has animals and overlaps that may stand in a report, and one overlap of each two animals, in their order
pub record IsAnalysisWithin (analysis : Analysis) : Type 0 where
  pub few : length analysis.animals ≤ MOST_COUNT
  pub animals : All IsAnimalWithin analysis.animals
  pub paired : map pair_of analysis.overlaps ≡ pairs (length analysis.animals)
  pub overlaps : All IsOverlapWithin analysis.overlaps
