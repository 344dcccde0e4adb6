-- The table `summary.csv`: a line for each animal and level.
use Rattle.std.specs.Prelude.{ℕ, Bool, List, [], ◌∷◌, ◌++◌, codes, decimal, length, map}
use Rattle.std.specs.List.{flat_map}
use Rattle.range_plane.specs.declared.scale.Scale.{Scale}
use Rattle.range_stats.specs.declared.percents.PercentRow.{PercentRow}
use Rattle.page_report.specs.Reading.{Read, Said}
use Rattle.page_facts.specs.Dates.{are_dates}
use Rattle.page_facts.specs.Facts.{second_at, seconds_of}
use Rattle.page_tables.specs.Lines.{name_cell, table}
use Rattle.page_tables.specs.Numbers.{hectares}
use Rattle.page_tables.specs.Times.{time_cell}

-- its titles
abbrev pub summary_titles : List (List ℕ)
summary_titles =
    codes "animal" ∷ codes "first" ∷ codes "last" ∷ codes "fixes" ∷ codes "level" ∷ codes "kept" ∷ codes "corners" ∷ codes "hectares" ∷ []

-- an animal: when its first and its last fix were, which may be dates, and how many there are
abbrev pub animal_cells : Bool → Said → List (List ℕ)
animal_cells dated animal =
    name_cell animal.name ∷ time_cell dated (second_at (seconds_of animal) 1) ∷ time_cell dated (second_at (seconds_of animal) (length animal.rows))
    ∷ decimal (length animal.rows) ∷ []

-- its polygon at a level
abbrev pub percent_cells : Scale → PercentRow → List (List ℕ)
percent_cells unit percent = decimal percent.level ∷ decimal percent.kept ∷ decimal percent.corners ∷ hectares percent.area2 unit ∷ []

abbrev pub summary_cells : Bool → Scale → Said → PercentRow → List (List ℕ)
summary_cells dated unit animal percent = animal_cells dated animal ++ percent_cells unit percent

abbrev pub animal_lines : Bool → Scale → Said → List (List (List ℕ))
animal_lines dated unit animal = map (summary_cells dated unit animal) animal.percents

-- its lines
abbrev pub summary_lines : Read → List (List (List ℕ))
summary_lines report = summary_titles ∷ flat_map (animal_lines (are_dates report) report.unit) report.animals

abbrev pub summary : Read → List ℕ
summary report = table (summary_lines report)
