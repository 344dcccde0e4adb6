-- Days of the calendar, counted from 1 January 1970.
use Rattle.std.specs.Prelude.{ℕ, zero, suc, ◌+◌, nat_lt, if◌then◌else◌, pos, Option, Some, None}
use Rattle.jiff_core.specs.Calendar.{days_in_month}
use Rattle.page_dates.specs.declared.calendar.TheConstants.{END_OF_DAYS}

-- the day after another, by year, month and day
unfoldable pub next_day : ℕ × ℕ × ℕ → ℕ × ℕ × ℕ
next_day (year, month, day) =
    if nat_lt day (days_in_month (pos year) month) then (year, month, day + 1)
    else if nat_lt month 12 then (year, month + 1, 1) else (year + 1, 1, 1)

-- the day so many days after 1 January 1970
unfoldable pub day_after : ℕ → ℕ × ℕ × ℕ
day_after zero = (1970, 1, 1)
day_after (suc days) = next_day (day_after days)

-- the same, of a day before dates end
abbrev pub date_of_day : ℕ → Option (ℕ × ℕ × ℕ)
date_of_day day = if nat_lt day END_OF_DAYS then Some (day_after day) else None
