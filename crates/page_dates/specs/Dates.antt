-- Dates and periods as the page writes them.
use Rattle.std.specs.Prelude.{ℕ, ◌+◌, ◌/◌, ◌==◌, Bool, ◌&&◌, if◌then◌else◌, ℤ, pos, negsuc, List, ◌++◌, codes, decimal, Option, Some, None}
use Rattle.jiff_tz.specs.declared.tzif.Tzif.{Tzif}
use Rattle.split_clock.specs.Clock.{local_second}
use Rattle.page_dates.specs.Calendar.{date_of_day}
use Rattle.page_dates.specs.declared.dates.TheConstants.{DAY}

-- the name of a month, by its number from 1 on
abbrev pub month_name : ℕ → List ℕ
month_name month =
    if month == 1 then codes "Jan"
    else if month == 2 then codes "Feb"
    else if month == 3 then codes "Mar"
    else if month == 4 then codes "Apr"
    else if month == 5 then codes "May"
    else if month == 6 then codes "Jun"
    else if month == 7 then codes "Jul"
    else if month == 8 then codes "Aug"
    else if month == 9 then codes "Sep"
    else if month == 10 then codes "Oct"
    else if month == 11 then codes "Nov"
    else codes "Dec"

-- a day as 20 Sep 2024
abbrev pub day_text : ℕ × ℕ × ℕ → List ℕ
day_text date = decimal date.2 ++ (codes " " ++ (month_name date.1 ++ (codes " " ++ decimal date.0)))

-- a second of the files' own start as day 3, of which the first is 1
abbrev pub counted : ℕ → List ℕ
counted second = codes "day " ++ decimal (second / DAY + 1)

-- the date of a second of a clock, if it is one
abbrev pub date_of_local : ℤ → Option (ℕ × ℕ × ℕ)
date_of_local (pos local) = date_of_day (local / DAY)
date_of_local (negsuc before) = None

-- the date that the clock of a zone shows at a second, where seconds are dates
abbrev pub shown_date : Option Tzif → Bool → ℕ → Option (ℕ × ℕ × ℕ)
shown_date zone dated second = if dated then date_of_local (local_second zone second) else None

abbrev pub date_if : Option (ℕ × ℕ × ℕ) → ℕ → List ℕ
date_if None second = counted second
date_if (Some date) second = day_text date

-- the date of a second, or its day of the files' own start
abbrev pub date_text : Option Tzif → Bool → ℕ → List ℕ
date_text zone dated second = date_if (shown_date zone dated second) second

-- the first date of a period, without what it has in common with the last
abbrev pub begin_text : ℕ × ℕ × ℕ → ℕ × ℕ × ℕ → List ℕ
begin_text first last =
    if first.0 == last.0 then if first.1 == last.1 then decimal first.2 else decimal first.2 ++ (codes " " ++ month_name first.1)
    else day_text first

-- a period of dates
abbrev pub days_period : ℕ × ℕ × ℕ → ℕ × ℕ × ℕ → List ℕ
days_period first last =
    if first.0 == last.0 && first.1 == last.1 && first.2 == last.2 then day_text last
    else begin_text first last ++ (codes " to " ++ day_text last)

-- and of days of the files' own start
abbrev pub counted_period : ℕ → ℕ → List ℕ
counted_period first last =
    if first / DAY == last / DAY then counted first else counted first ++ (codes " to " ++ decimal (last / DAY + 1))

abbrev pub period_if : Option (ℕ × ℕ × ℕ) → Option (ℕ × ℕ × ℕ) → ℕ → ℕ → List ℕ
period_if (Some begin) (Some end) first last = days_period begin end
period_if (Some begin) None first last = counted_period first last
period_if None end first last = counted_period first last

-- two dates as a period, with what both have written once
abbrev pub period_text : Option Tzif → Bool → ℕ → ℕ → List ℕ
period_text zone dated first last = period_if (shown_date zone dated first) (shown_date zone dated last) first last
