-- The table `overlaps.csv`: a line and a column for each animal.
use Rattle.std.specs.Prelude.{ℕ, zero, suc, ◌+◌, List, [], ◌∷◌, codes, length, map, Option, Some, None}
use Rattle.std.specs.List.{slice_get}
use Rattle.page_report.specs.Reading.{Read, Said}
use Rattle.page_facts.specs.Facts.{count_of}
use Rattle.page_tables.specs.Lines.{name_cell, table}
use Rattle.page_tables.specs.Shares.{share_cell}

-- which share of the fixes of an animal lies in the range of another
unfoldable pub overlap_cell : Read → ℕ → ℕ → List ℕ
overlap_cell report animal range = share_cell (count_of report animal range) (count_of report animal animal)

-- the cells of an animal and of ranges from one on, so many of them
unfoldable pub cells_from : Read → ℕ → ℕ → ℕ → List (List ℕ)
cells_from report animal range zero = []
cells_from report animal range (suc more) = overlap_cell report animal range ∷ cells_from report animal (range + 1) more

-- the name of an animal
abbrev pub name_if : Option Said → List ℕ
name_if None = []
name_if (Some animal) = animal.name

-- the cells of an animal
abbrev pub overlap_cells : Read → ℕ → List (List ℕ)
overlap_cells report animal = name_cell (name_if (slice_get report.animals animal)) ∷ cells_from report animal 0 (length report.animals)

-- the lines of animals from one on, so many of them
unfoldable pub lines_from : Read → ℕ → ℕ → List (List (List ℕ))
lines_from report animal zero = []
lines_from report animal (suc more) = overlap_cells report animal ∷ lines_from report (animal + 1) more

-- its lines, of which the first has the names of ranges
abbrev pub range_cells : Read → List (List ℕ)
range_cells report = map (λ animal. name_cell animal.name) report.animals

abbrev pub overlap_titles : Read → List (List ℕ)
overlap_titles report = codes "fixes_of" ∷ range_cells report

abbrev pub overlap_lines : Read → List (List (List ℕ))
overlap_lines report = overlap_titles report ∷ lines_from report 0 (length report.animals)

abbrev pub overlaps : Read → List ℕ
overlaps report = table (overlap_lines report)
