-- The table `animals.csv`: a line for each animal, of its facts and of what its export had.
use Rattle.std.specs.Prelude.{ℕ, Bool, ◌+◌, ◌-◌, ◌^◌, List, [], ◌∷◌, ◌++◌, codes, decimal, map, min, Option, Some, None, option_map}
use Rattle.std.specs.List.{slice_get}
use Rattle.range_plane.specs.declared.scale.Scale.{Scale}
use Rattle.range_stats.specs.declared.percents.PercentRow.{PercentRow}
use Rattle.page_report.specs.Reading.{Read, Said}
use Rattle.page_facts.specs.Dates.{are_dates}
use Rattle.page_facts.specs.Facts.{at_level}
use Rattle.page_facts.specs.declared.facts.Facts.{Facts}
use Rattle.page_tables.specs.Lines.{behind, behind_comma, name_cell, table}
use Rattle.page_tables.specs.Numbers.{hectares}
use Rattle.page_tables.specs.Overlaps.{name_if}
use Rattle.page_tables.specs.Shares.{share_cell}
use Rattle.page_tables.specs.Times.{time_cell}
use Rattle.page_tables.specs.declared.animals.Told.{Told}

-- the cell of a whole number, which is empty where it is not known
unfoldable pub whole_cell : Option ℕ → List ℕ
whole_cell None = []
whole_cell (Some number) = decimal number

-- a number of 64 bits; no number of a report is greater
abbrev pub short : ℕ → ℕ
short number = min number (2 ^ 64 - 1)

-- how long it is from a second to another
abbrev pub between : Option ℕ → Option ℕ → Option ℕ
between None last = None
between (Some first) None = None
between (Some first) (Some last) = Some (last - first)

-- the cells of the fixes of an animal, whose times may be dates: days, and hours of intervals
unfoldable pub fact_cells : Bool → Facts → List (List ℕ)
fact_cells dated facts =
    decimal facts.fixes ∷ time_cell dated facts.first ∷ time_cell dated facts.last ∷ share_cell (between facts.first facts.last) (Some 86400)
    ∷ share_cell (option_map short facts.median2) (Some 7200) ∷ share_cell facts.longest (Some 3600) ∷ []

-- those of how its area grew
unfoldable pub growth_cells : Bool → Facts → List (List ℕ)
growth_cells dated facts =
    whole_cell facts.growth.within ∷ time_cell dated facts.within_second ∷ share_cell (Some (short facts.growth.tenth)) (Some (short facts.growth.area2))
    ∷ share_cell (Some (short facts.growth.quarter)) (Some (short facts.growth.area2)) ∷ []

-- the area of an animal at a level, if it has one
abbrev pub area_cell : Scale → Option PercentRow → List ℕ
area_cell unit None = []
area_cell unit (Some percent) = hectares percent.area2 unit

abbrev pub level_if : Option Said → ℕ → Option PercentRow
level_if None level = None
level_if (Some animal) level = at_level animal level

unfoldable pub level_cell : Read → ℕ → PercentRow → List ℕ
level_cell report animal own = area_cell report.unit (level_if (slice_get report.animals animal) own.level)

-- the levels, which are those of the first animal
abbrev pub levels_if : Option Said → List PercentRow
levels_if None = []
levels_if (Some animal) = animal.percents

abbrev pub levels : Read → List PercentRow
levels report = levels_if (slice_get report.animals 0)

-- the cells of an animal
unfoldable pub told_cells : Read → Bool → ℕ → Told → List (List ℕ)
told_cells report dated animal told =
    name_cell (name_if (slice_get report.animals animal)) ∷ whole_cell told.records
    ∷ map decimal told.left.items ++ (fact_cells dated told.facts ++ (map (level_cell report animal) (levels report) ++ growth_cells dated told.facts))

-- its line in two parts
abbrev pub told_first : Read → Bool → ℕ → Told → List ℕ
told_first report dated animal told =
    name_cell (name_if (slice_get report.animals animal)) ++ behind_comma (whole_cell told.records) ++ behind (map decimal told.left.items)
    ++ behind (fact_cells dated told.facts)

abbrev pub told_last : Read → Bool → ℕ → Told → List ℕ
told_last report dated animal told = behind (map (level_cell report animal) (levels report)) ++ behind (growth_cells dated told.facts) ++ codes "\n"

-- its lines, one for each animal that is told of, from one on
unfoldable pub told_lines : Read → Bool → ℕ → List Told → List (List (List ℕ))
told_lines report dated animal [] = []
told_lines report dated animal (told ∷ others) = told_cells report dated animal told ∷ told_lines report dated (animal + 1) others

-- titles of the reasons for which fixes are left out, and of levels
abbrev pub reason_titles : List (List ℕ) → List (List ℕ)
reason_titles reasons = map (λ reason. codes "left_" ++ reason) reasons

abbrev pub level_titles : List PercentRow → List (List ℕ)
level_titles levels = map (λ own. codes "hectares_" ++ decimal own.level) levels

-- titles of fixes, and of growth
abbrev pub fact_titles : List (List ℕ)
fact_titles = codes "used" ∷ codes "first" ∷ codes "last" ∷ codes "days" ∷ codes "median_hours" ∷ codes "longest_hours" ∷ []

abbrev pub growth_titles : List (List ℕ)
growth_titles = codes "within_95_fix" ∷ codes "within_95_time" ∷ codes "last_tenth" ∷ codes "last_quarter" ∷ []

-- its titles
unfoldable pub animal_titles : Read → List (List ℕ) → List (List ℕ)
animal_titles report reasons =
    codes "animal" ∷ codes "records" ∷ reason_titles reasons ++ (fact_titles ++ (level_titles (levels report) ++ growth_titles))

-- the same in two parts
abbrev pub titles_first : List (List ℕ) → List ℕ
titles_first reasons = codes "animal,records" ++ behind (reason_titles reasons) ++ behind fact_titles

abbrev pub titles_last : Read → List ℕ
titles_last report = behind (level_titles (levels report)) ++ behind growth_titles ++ codes "\n"

-- its text
abbrev pub animals : Read → List (List ℕ) → List Told → List ℕ
animals report reasons told = table (animal_titles report reasons ∷ told_lines report (are_dates report) 0 told)
