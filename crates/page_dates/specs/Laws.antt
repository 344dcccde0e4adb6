-- What holds of dates.
use Rattle.std.specs.Prelude.{◌≡◌, ℕ, ◌≤◌, pos}
use Rattle.jiff_core.specs.Calendar.{days_from_civil, days_in_month}
use Rattle.page_dates.specs.Calendar.{day_after}

-- a date has the number of its day: its month and its day are those of the calendar
abbrev pub IsDay : ℕ × ℕ × ℕ → ℕ → Type 0
IsDay date day =
    (1 ≤ date.1) × (date.1 ≤ 12) × (1 ≤ date.2) × (date.2 ≤ days_in_month (pos date.0) date.1)
    × (days_from_civil (pos date.0) date.1 date.2 ≡ pos day)

-- the day that is counted to is that of the calendar
abbrev pub DaysAreOfTheCalendar : Type 0
DaysAreOfTheCalendar = (day : ℕ) → IsDay (day_after day) day
