-- The times that a clock shows, by their parts.
use Rattle.std.specs.Prelude.{ℕ, ◌+◌, ◌*◌, ◌%◌, nat_le, ◌&&◌, if◌then◌else◌, Option, Some, None, Result, Ok, Err, ℤ, pos, ◌+ℤ◌, ◌*ℤ◌}
use Rattle.std.specs.Int.{is_in_range}
use Rattle.split_times.specs.Calendar.{◌>>=◌, civil_day, ordinal_day}
use Rattle.split_times.specs.declared.local.LocalTime.{LocalTime}
use Rattle.split_times.specs.declared.moment.TimeFault.{TimeFault}
use Rattle.split_times.specs.declared.moment.TimeFault.TheVariants.{NotTime, MoreThanNineDecimals}
use Rattle.split_times.specs.declared.words.Half.{Half}
use Rattle.split_times.specs.declared.words.Half.TheVariants.{Morning, Afternoon}
use Rattle.split_times.specs.declared.words.TimeParts.{TimeParts}

-- the day of the year that is said, or else the day of a month
abbrev pub day_by : TimeParts → Option ℕ → Option ℤ
day_by parts (Some place) = ordinal_day parts.year place
day_by parts None = civil_day parts.year parts.month parts.day

-- the day that is said, counted from 1 January 1970
abbrev pub day_of : TimeParts → Option ℤ
day_of parts = day_by parts parts.day_of_year

-- the hour of a day, or of a half of it, whose first hour is 12
abbrev pub hour_by : ℕ → Option Half → Option ℕ
hour_by hour None = if nat_le hour 23 then Some hour else None
hour_by hour (Some Morning) = if is_in_range 1 12 hour then Some (hour % 12) else None
hour_by hour (Some Afternoon) = if is_in_range 1 12 hour then Some (hour % 12 + 12) else None

-- the hour that is said
abbrev pub hour_of : TimeParts → Option ℕ
hour_of parts = hour_by parts.hour parts.half

-- the seconds from midnight on that are said
unfoldable pub clock_of : TimeParts → Option ℕ
clock_of parts = do
  hour ← hour_of parts
  if nat_le parts.minute 59 && nat_le parts.second 59 then Some (hour * 3600 + parts.minute * 60 + parts.second) else None

-- the time of a day, of the seconds from its midnight on and of nanoseconds, or the first fault that it has
abbrev pub joined : Option ℤ → Option ℕ → Option ℕ → Result LocalTime TimeFault
joined None clock nanosecond = Err NotTime
joined (Some day) None nanosecond = Err NotTime
joined (Some day) (Some clock) None = Err MoreThanNineDecimals
joined (Some day) (Some clock) (Some nanosecond) = Ok (record { second = day *ℤ pos 86400 +ℤ pos clock; nanosecond = nanosecond })

-- the time that parts say
abbrev pub local_time_of : TimeParts → Result LocalTime TimeFault
local_time_of parts = joined (day_of parts) (clock_of parts) parts.nanosecond
