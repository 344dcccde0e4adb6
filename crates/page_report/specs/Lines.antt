-- What a line of a report says, without its end.
use Rattle.std.specs.Prelude.{ℕ, pos, ◌==◌, if◌then◌else◌, codes, List, Option, Some, None}
use Rattle.range_estimator.specs.declared.row.Row.{Row}
use Rattle.range_lanes.specs.declared.extent.Extent.{Extent}
use Rattle.range_stats.specs.declared.percents.PercentRow.{PercentRow}
use Rattle.page_report.specs.Fields.{◌>>=◌, behind, cut, number_up_to, numbered}
use Rattle.page_report.specs.declared.corner.Corner.{Corner}
use Rattle.page_report.specs.declared.fields.TheConstants.{MOST, MOST_COUNT, MOST_LEVEL}

-- what stands behind a kind of line and the name of an animal, each with a comma
unfoldable pub behind_name : List ℕ → List ℕ → List ℕ → Option (List ℕ)
behind_name kind name line = do
  named ← behind kind line
  rest ← behind name named
  behind (codes ",") rest

-- what stands behind a number that is this one, and a comma
unfoldable pub behind_number : ℕ → List ℕ → Option (List ℕ)
behind_number number text = do
  own ← numbered MOST_COUNT text
  if own.0 == number then Some own.1 else None

-- the line of an animal: its name, and how many fixes it has
unfoldable pub head_of : List ℕ → Option (List ℕ × ℕ)
head_of line = do
  named ← behind (codes "animal,") line
  parts ← cut 44 named
  count ← behind (codes "fixes,") parts.1
  fixes ← number_up_to MOST_COUNT count
  Some (parts.0, fixes)

-- the line of the box of the animal of this name
unfoldable pub box_of : List ℕ → List ℕ → Option Extent
box_of name line = do
  text ← behind_name (codes "box,") name line
  west ← numbered MOST text
  south ← numbered MOST west.1
  east ← numbered MOST south.1
  north ← number_up_to MOST east.1
  Some (record { min_e = pos west.0; min_n = pos south.0; max_e = pos east.0; max_n = pos north })

-- the line of the row of this number
unfoldable pub row_of : List ℕ → ℕ → List ℕ → Option Row
row_of name number line = do
  named ← behind_name (codes "row,") name line
  text ← behind_number number named
  second ← numbered MOST text
  corners ← numbered MOST_COUNT second.1
  area2 ← number_up_to MOST corners.1
  Some (record { second = second.0; corners = corners.0; area2 = area2 })

-- the line of the corner of this number
unfoldable pub corner_of : List ℕ → ℕ → List ℕ → Option Corner
corner_of name number line = do
  named ← behind_name (codes "corner,") name line
  text ← behind_number number named
  easting ← numbered MOST text
  northing ← number_up_to MOST easting.1
  Some (record { easting = pos easting.0; northing = pos northing })

-- the line of a percent polygon
unfoldable pub percent_of : List ℕ → List ℕ → Option PercentRow
percent_of name line = do
  text ← behind_name (codes "percent,") name line
  level ← numbered MOST_LEVEL text
  kept ← numbered MOST_COUNT level.1
  corners ← numbered MOST_COUNT kept.1
  area2 ← number_up_to MOST corners.1
  Some (record { level = level.0; kept = kept.0; corners = corners.0; area2 = area2 })

-- the line of the overlap of these two: how many fixes of the first lie in the range of the second, and how many there are
unfoldable pub overlap_of : List ℕ → List ℕ → List ℕ → Option (ℕ × ℕ)
overlap_of animal range line = do
  own ← behind_name (codes "overlap,") animal line
  ranged ← behind range own
  text ← behind (codes ",") ranged
  count ← numbered MOST_COUNT text
  fixes ← number_up_to MOST_COUNT count.1
  Some (count.0, fixes)

-- how many animals the last line has
unfoldable pub end_of : List ℕ → Option ℕ
end_of line = do
  count ← behind (codes "end,") line
  number_up_to MOST_COUNT count
