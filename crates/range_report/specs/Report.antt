-- The text of a report.
use Rattle.std.specs.Prelude.{◌++◌, ◌+◌, ℕ, ℤ, List, [], ◌∷◌, length, map, codes, decimal}
use Rattle.std.specs.Fmt.{signed_decimal}
use Rattle.std.specs.List.{flat_map}
use Rattle.range_plane.specs.Plane.{Position}
use Rattle.range_plane.specs.declared.scale.Scale.{Scale}
use Rattle.range_plane.specs.declared.scale.Scale.TheVariants.{Metre, Decimetre}
use Rattle.range_lanes.specs.declared.extent.Extent.{Extent}
use Rattle.range_stats.specs.declared.percents.PercentRow.{PercentRow}
use Rattle.range_estimator.specs.declared.row.Row.{Row}
use Rattle.range_analysis.specs.Names.{name_at}
use Rattle.range_analysis.specs.declared.animal.Animal.{Animal}
use Rattle.range_analysis.specs.declared.animal.OverlapRow.{OverlapRow}
use Rattle.range_analysis.specs.declared.analysis.Analysis.{Analysis}

-- the line of the unit, which a report in metres does not have
abbrev pub unit_line : Scale → List ℕ
unit_line Metre = []
unit_line Decimetre = codes "unit,dm\n"

-- the first line of an animal: its name, and how many fixes it has
abbrev pub animal_line : List ℕ → ℕ → List ℕ
animal_line name count = codes "animal," ++ name ++ codes ",fixes," ++ decimal count ++ codes "\n"

-- an easting and a northing, each behind a comma
unfoldable pub point_text : ℤ → ℤ → List ℕ
point_text easting northing = codes "," ++ signed_decimal easting ++ codes "," ++ signed_decimal northing

-- the line of an animal's box: the least easting and northing, and the greatest
abbrev pub box_line : List ℕ → Extent → List ℕ
box_line name extent =
    codes "box," ++ name ++ point_text extent.min_e extent.min_n ++ point_text extent.max_e extent.max_n ++ codes "\n"

-- a number behind a comma
abbrev pub field : ℕ → List ℕ
field number = codes "," ++ decimal number

-- the line of the first n fixes: the second of the last of them, and the corners and the doubled area of their
-- polygon
abbrev pub row_line : List ℕ → ℕ → Row → List ℕ
row_line name n row =
    codes "row," ++ name ++ field n ++ field row.second ++ field row.corners ++ field row.area2 ++ codes "\n"

-- what the line of each row of an animal begins with
abbrev pub row_head : List ℕ → List ℕ
row_head name = codes "row," ++ name ++ codes ","

-- what the line of a row ends with
abbrev pub row_tail : Row → List ℕ
row_tail row = field row.corners ++ field row.area2 ++ codes "\n"

-- the line of a corner of the polygon, with its number
abbrev pub corner_line : List ℕ → ℕ → Position → List ℕ
corner_line name number corner = codes "corner," ++ name ++ field number ++ point_text corner.e corner.n ++ codes "\n"

-- a line for each member of a list, the first having this number
abbrev pub lines_from : {A : Type 0} → (ℕ → A → List ℕ) → ℕ → List A → List ℕ
lines_from line number [] = []
lines_from line number (x ∷ xs) = line number x ++ lines_from line (number + 1) xs

-- a line for each member of a list, counted from 1
abbrev pub numbered_lines : {A : Type 0} → (ℕ → A → List ℕ) → List A → List ℕ
numbered_lines line members = lines_from line 1 members

-- the line of a percent polygon: its level, how many fixes it keeps, and its corners and doubled area
abbrev pub percent_line : List ℕ → PercentRow → List ℕ
percent_line name row =
    codes "percent," ++ name ++ field row.level ++ field row.kept ++ field row.corners ++ field row.area2 ++ codes "\n"

-- the line of the overlap of two animals, where these are the names of all
abbrev pub overlap_line : List (List ℕ) → OverlapRow → List ℕ
overlap_line names row =
    codes "overlap," ++ name_at names row.animal ++ codes "," ++ name_at names row.range ++ field row.count ++ field row.fixes ++ codes "\n"

-- the last line of a report: how many animals there are
abbrev pub end_line : ℕ → List ℕ
end_line animals = codes "end," ++ decimal animals ++ codes "\n"

-- the lines of one animal, in their order
unfoldable pub animal_text : Animal → List ℕ
animal_text animal =
    animal_line animal.name (length animal.rows) ++ box_line animal.name animal.extent
    ++ numbered_lines (row_line animal.name) animal.rows ++ numbered_lines (corner_line animal.name) animal.polygon
    ++ flat_map (percent_line animal.name) animal.percents

-- the text of the report of an analysis
unfoldable pub report_text : Analysis → List ℕ
report_text analysis =
    unit_line analysis.unit ++ flat_map animal_text analysis.animals
    ++ flat_map (overlap_line (map (λ animal. animal.name) analysis.animals)) analysis.overlaps
    ++ end_line (length analysis.animals)
