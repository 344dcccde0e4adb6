-- Times in UTC, and seconds that are no dates.
use Rattle.std.specs.Prelude.{ℕ, ◌/◌, ◌%◌, nat_lt, Bool, ◌&&◌, if◌then◌else◌, List, [], ◌++◌, codes, decimal, Option, Some, None}
use Rattle.page_dates.specs.Calendar.{day_after}
use Rattle.page_tables.specs.Numbers.{padded}
use Rattle.page_facts.specs.declared.dates.TheConstants.{END_OF_DATES}
use Rattle.page_tables.specs.declared.times.TheConstants.{DAY}

-- a date as 2023-11-14, and the time of a second of a day as 22:13:20
abbrev pub ymd_text : ℕ × ℕ × ℕ → List ℕ
ymd_text date = padded 4 date.0 ++ codes "-" ++ padded 2 date.1 ++ codes "-" ++ padded 2 date.2

abbrev pub date_text : ℕ → List ℕ
date_text day = ymd_text (day_after day)

abbrev pub clock_text : ℕ → List ℕ
clock_text second = padded 2 (second / 3600) ++ codes ":" ++ padded 2 (second / 60 % 60) ++ codes ":" ++ padded 2 (second % 60)

-- the date and the time of a second since 1970
abbrev pub time_text : ℕ → List ℕ
time_text second = date_text (second / DAY) ++ codes "T" ++ clock_text (second % DAY) ++ codes "Z"

-- the cell of a time, which is empty where there is none; a second that is no date is a number
unfoldable pub time_cell : Bool → Option ℕ → List ℕ
time_cell dated None = []
time_cell dated (Some second) = if dated && nat_lt second END_OF_DATES then time_text second else decimal second
