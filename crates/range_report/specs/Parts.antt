-- The parts of a report, which several threads write.
use Rattle.std.specs.Prelude.{◌++◌, ◌+◌, ◌-◌, ◌/◌, ℕ, List, drop, length, map, take}
use Rattle.std.specs.List.{flat_map}
use Rattle.range_analysis.specs.declared.analysis.Analysis.{Analysis}
use Rattle.range_analysis.specs.declared.animal.Animal.{Animal}
use Rattle.range_report.specs.declared.parts.Lines.{Lines}
use Rattle.range_report.specs.declared.parts.Lines.TheVariants.{Head, Rows, Corners, Percents}
use Rattle.range_report.specs.declared.parts.Part.{Part}
use Rattle.range_report.specs.Report.{animal_line, box_line, corner_line, end_line, lines_from, overlap_line, percent_line, row_line}
use Rattle.range_report.specs.declared.parts.TheConstants.{PART_LINES}

-- how many rows or corners a part has at most
abbrev pub part_lines : ℕ
part_lines = PART_LINES

-- how many parts so many rows or corners have
abbrev pub part_count : ℕ → ℕ
part_count count = (count + (part_lines - 1)) / part_lines

-- a line for each member from this index on, and for part_lines of them at most
abbrev pub numbered_lines_from : {A : Type 0} → (ℕ → A → List ℕ) → ℕ → List A → List ℕ
numbered_lines_from line from members = lines_from line (from + 1) (take part_lines (drop from members))

-- such lines of an animal, those of its rows or corners from an index on
abbrev pub part_text : Lines → ℕ → Animal → List ℕ
part_text Head from animal = animal_line animal.name (length animal.rows) ++ box_line animal.name animal.extent
part_text Rows from animal = numbered_lines_from (row_line animal.name) from animal.rows
part_text Corners from animal = numbered_lines_from (corner_line animal.name) from animal.polygon
part_text Percents from animal = flat_map (percent_line animal.name) animal.percents

abbrev pub text_of : Part → List ℕ
text_of part = part_text part.lines part.from part.animal.now

-- what stands behind the lines of the animals: those of overlaps, and the last line
abbrev pub tail_text : Analysis → List ℕ
tail_text analysis =
    flat_map (overlap_line (map (λ animal. animal.name) analysis.animals)) analysis.overlaps ++ end_line (length analysis.animals)
