-- The facts of an animal of a report, and the counts of pairs.
use Rattle.std.specs.Prelude.{◌≡◌, ℕ, ◌+◌, ◌-◌, ◌*◌, ◌/◌, ◌==◌, ◌&&◌, nat_lt, if◌then◌else◌, map, max, List, [], ◌∷◌, length, slice_index, Option, Some, None}
use Rattle.std.specs.List.{find, reduce, slice_get}
use Rattle.std.specs.List.Sorted.{IsPermutation, IsSorted}
use Rattle.std.specs.Ordering.{nat_cmp}
use Rattle.range_stats.specs.declared.percents.PercentRow.{PercentRow}
use Rattle.page_report.specs.Reading.{Read, Said}
use Rattle.page_report.specs.declared.overlaps.Overlap.{Overlap}
use Rattle.page_facts.specs.Growth.{growth_of}
use Rattle.page_facts.specs.declared.facts.Facts.{Facts}

-- the seconds and the doubled areas of an animal, in the order of its fixes
abbrev pub seconds_of : Said → List ℕ
seconds_of animal = map (λ row. row.second) animal.rows

abbrev pub areas_of : Said → List ℕ
areas_of animal = map (λ row. row.area2) animal.rows

-- the intervals between seconds
unfoldable pub intervals_behind : ℕ → List ℕ → List ℕ
intervals_behind former [] = []
intervals_behind former (second ∷ seconds) = (second - former) ∷ intervals_behind second seconds

abbrev pub intervals_of : List ℕ → List ℕ
intervals_of [] = []
intervals_of (first ∷ seconds) = intervals_behind first seconds

-- twice the middle of numbers in order
abbrev pub twice_middle : List ℕ → Option ℕ
twice_middle sorted =
    if length sorted == 0 then None else Some (slice_index sorted ((length sorted - 1) / 2) + slice_index sorted (length sorted / 2))

-- twice the median: the middle of the numbers in order
abbrev pub IsTwiceMedian : List ℕ → Option ℕ → Type 0
IsTwiceMedian numbers found = (sorted : List ℕ) × IsPermutation numbers sorted × IsSorted nat_cmp sorted × (found ≡ twice_middle sorted)

-- the second of the fix of a number from 1 on
abbrev pub second_at : List ℕ → ℕ → Option ℕ
second_at seconds number = if number == 0 then None else slice_get seconds (number - 1)

abbrev pub within_second : List ℕ → Option ℕ → Option ℕ
within_second seconds None = None
within_second seconds (Some number) = second_at seconds number

-- the facts of an animal, with twice the median of its intervals
abbrev pub facts_with : Said → Option ℕ → Facts
facts_with animal median2 = record {
  fixes = length animal.rows;
  first = second_at (seconds_of animal) 1;
  last = second_at (seconds_of animal) (length animal.rows);
  median2 = median2;
  longest = reduce max (intervals_of (seconds_of animal));
  growth = growth_of (areas_of animal);
  within_second = within_second (seconds_of animal) (growth_of (areas_of animal)).within;
}

-- the percent polygon at a level
abbrev pub at_level : Said → ℕ → Option PercentRow
at_level animal level = find (λ own. own.level == level) animal.percents

-- where the overlap of two of so many animals stands: animal by animal, each with the ranges of the others
abbrev pub place_of : ℕ → ℕ → ℕ → ℕ
place_of animals animal range = animal * (animals - 1) + (if nat_lt range animal then range else range - 1)

-- the count of an overlap, which has to be that of these two
abbrev pub count_if : ℕ → ℕ → Option Overlap → Option ℕ
count_if animal range None = None
count_if animal range (Some own) = if own.animal == animal && own.range == range then Some own.count else None

-- how many fixes an animal has
abbrev pub fixes_if : Option Said → Option ℕ
fixes_if None = None
fixes_if (Some animal) = Some (length animal.rows)

-- how many fixes of an animal lie in the range of another; all lie in its own
abbrev pub count_of : Read → ℕ → ℕ → Option ℕ
count_of report animal range =
    if animal == range then fixes_if (slice_get report.animals animal)
    else count_if animal range (slice_get report.overlaps (place_of (length report.animals) animal range))
