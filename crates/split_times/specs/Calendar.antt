-- Days of the calendar, by the numbers of a date.
use Rattle.std.specs.Prelude.{ℕ, ◌==◌, nat_le, Bool, ◌&&◌, if◌then◌else◌, Option, Some, None, ℤ, pos, ◌+ℤ◌, ◌-ℤ◌, int_le}
use Rattle.std.specs.Int.{is_in_range}
use Rattle.jiff_core.specs.Calendar.{days_from_civil, days_in_month}

-- what is found, and then what is found by it
infixl 10 ◌>>=◌
abbrev pub ◌>>=◌ : {A B : Type 0} → Option A → (A → Option B) → Option B
None >>= f = None
(Some x) >>= f = f x

-- whether the calendar has the day
abbrev pub is_day : ℕ → ℕ → ℕ → Bool
is_day year month day = is_in_range 1 12 month && is_in_range 1 (days_in_month (pos year) month) day

-- the day of a date whose year has at most four digits, counted from 1 January 1970
unfoldable pub civil_day : ℕ → ℕ → ℕ → Option ℤ
civil_day year month day = if nat_le year 9999 && is_day year month day then Some (days_from_civil (pos year) month day) else None

-- the day at a place from the first day of a year on, which has 1, if it is not past the last day
abbrev pub day_at : ℤ → ℤ → ℕ → Option ℤ
day_at first last place = if place == 0 then None else if int_le (first +ℤ pos place -ℤ pos 1) last then Some (first +ℤ pos place -ℤ pos 1) else None

-- the day of a year by its place from 1 January on
unfoldable pub ordinal_day : ℕ → ℕ → Option ℤ
ordinal_day year place = do
  first ← civil_day year 1 1
  last ← civil_day year 12 31
  day_at first last place
