-- The date and the time of a second that a clock shows.
use Rattle.std.specs.Prelude.{ℕ, zero, suc, ◌+◌, ◌/◌, ◌%◌, ◌<◌, nat_lt, Bool, true, false, ◌&&◌, IsTrue, if◌then◌else◌, ℤ, pos, neg_ℤ, ◌+ℤ◌, int_le, unsigned_abs}
use Rattle.std.specs.Int.{is_in_range}
use Rattle.std.proofs.Common.{arith, refl}
use Rattle.std.proofs.lemmas.Int.{ints}
use Rattle.jiff_core.specs.Calendar.{IsCivilDate, days_in_month}
use Rattle.jiff_core.specs.Date.{month_length}
use Rattle.jiff_core.specs.declared.civil.date.Date.{Date}
use Rattle.jiff_core.specs.declared.civil.datetime.DateTime.{DateTime}
use Rattle.jiff_core.specs.declared.civil.time.Time.{Time}

-- whether the calendar has the day, from the year -9999 to 9999
abbrev pub is_date : ℤ → ℕ → ℕ → Bool
is_date year month day =
    int_le (neg_ℤ (pos 9999)) year && int_le year (pos 9999) && is_in_range 1 12 month && is_in_range 1 (days_in_month year month) day

-- such a day has what the type of dates asks for
pub has_date : (year : ℤ) (month day : ℕ) → IsTrue (is_date year month day) → IsCivilDate year month day
has_date year month day h = grind (arith, ints)

-- and so has 1 January of the year -9999
pub has_first_date : IsCivilDate (neg_ℤ (pos 9999)) 1 1
has_first_date = has_date (neg_ℤ (pos 9999)) 1 1 refl

-- the date of a day that the calendar has
abbrev pub date_with : (year : ℤ) (month day : ℕ) → IsCivilDate year month day → Date
date_with year month day has = record { year = year; month = month; day = day; year_in = has.0; month_in = has.1; day_in = has.2 }

-- the first date: 1 January of the year -9999
unfoldable pub first_date : Date
first_date = date_with (neg_ℤ (pos 9999)) 1 1 has_first_date

-- the date of a day, of which it is told whether the calendar has it; the first, where it has not
abbrev pub date_if : (year : ℤ) (month day : ℕ) (is : Bool) → (IsTrue is → IsCivilDate year month day) → Date
date_if year month day true has = date_with year month day (has refl)
date_if year month day false has = first_date

-- the date of a year, a month and a day
unfoldable pub date_of : ℤ → ℕ → ℕ → Date
date_of year month day = date_if year month day (is_date year month day) (has_date year month day)

-- the date after another: the next day of the month, or else the first of the next month, or else 1 January of the next year
unfoldable pub next_date : Date → Date
next_date date =
    if nat_lt date.day (month_length date) then date_of date.year date.month (date.day + 1)
    else if nat_lt date.month 12 then date_of date.year (date.month + 1) 1
    else date_of (date.year +ℤ pos 1) 1 1

-- the date so many days after the first
unfoldable pub date_after : ℕ → Date
date_after zero = first_date
date_after (suc days) = next_date (date_after days)

-- a remainder is less than what it is left by, as the type of times asks for
pub below : (n : ℕ) → (n % 24 < 24) × (n % 60 < 60) × (0 < 1_000_000_000)
below n = (omega arith, omega arith, omega arith)

-- what a clock shows so many seconds after midnight
unfoldable pub clock_after : ℕ → Time
clock_after seconds = record {
  hour = seconds / 3600 % 24;
  minute = seconds / 60 % 60;
  second = seconds % 60;
  subsec_nanosecond = 0;
  hour_in = (below (seconds / 3600)).0;
  minute_in = (below (seconds / 60)).1;
  second_in = (below seconds).1;
  subsec_in = (below 0).2;
}

-- the date and the time so many seconds after the first midnight
unfoldable pub time_after : ℕ → DateTime
time_after seconds = record { date = date_after (seconds / 86_400); time = clock_after (seconds % 86_400) }

-- the date and the time of a second of the calendar, counted from midnight of 1 January 1970
unfoldable pub time_of : ℤ → DateTime
time_of local = time_after (unsigned_abs (local +ℤ pos 377_705_116_800))
