-- The fields of an ISO text: a date, a clock to the minute, seconds and an offset.
use Rattle.std.specs.Prelude.{ℕ, ◌+◌, ◌*◌, ◌==◌, nat_le, nat_lt, Bool, true, ◌&&◌, ◌||◌, if◌then◌else◌, List, [], ◌∷◌, length, take, drop, slice_index, Option, Some, None, ℤ, pos, neg_ℤ}
use Rattle.std.specs.Str.Parse.{digits_value}
use Rattle.range_numbers.specs.Number.{is_number}
use Rattle.split_times.specs.Calendar.{◌>>=◌, civil_day}

-- the number that digits write
abbrev pub number_in : List ℕ → Option ℕ
number_in digits = if is_number digits then Some (digits_value 10 digits) else None

-- the day of a date `2024-05-01`, counted from 1 January 1970
unfoldable pub day_in : List ℕ → Option ℤ
day_in date = do
  year ← number_in (take 4 date)
  month ← number_in (take 2 (drop 5 date))
  day ← number_in (take 2 (drop 8 date))
  if slice_index date 4 == 45 && slice_index date 7 == 45 then civil_day year month day else None

-- the seconds from midnight to the minute of a clock ` 00:30` or `T00:30`
unfoldable pub clock_in : List ℕ → Option ℕ
clock_in clock = do
  hour ← number_in (take 2 (drop 1 clock))
  minute ← number_in (take 2 (drop 4 clock))
  if (slice_index clock 0 == 32 || slice_index clock 0 == 84) && slice_index clock 3 == 58 && nat_le hour 23 && nat_le minute 59
      then Some (hour * 3600 + minute * 60) else None

-- whether nothing stands behind whole seconds, or a point and digits
abbrev pub are_decimals : List ℕ → Bool
are_decimals [] = true
are_decimals (b ∷ digits) = b == 46 && is_number digits

-- the whole seconds of `:04` or `:04.250`, or none of them where nothing stands there
unfoldable pub second_in : List ℕ → Option ℕ
second_in [] = Some 0
second_in seconds = do
  second ← number_in (take 2 (drop 1 seconds))
  if nat_le 3 (length seconds) && slice_index seconds 0 == 58 && nat_le second 59 && are_decimals (drop 3 seconds) then Some second else None

-- the minutes of an offset behind its hours: `30`, `:30` or nothing
unfoldable pub offset_minutes_in : List ℕ → Option ℕ
offset_minutes_in minutes =
    if length minutes == 0 then Some 0
    else if length minutes == 2 then number_in minutes
    else if length minutes == 3 && slice_index minutes 0 == 58 then number_in (drop 1 minutes)
    else None

-- the seconds of an offset by its sign
abbrev pub by_sign : ℕ → ℕ → Option ℤ
by_sign sign seconds = if sign == 43 then Some (pos seconds) else if sign == 45 then Some (neg_ℤ (pos seconds)) else None

-- by how many seconds a clock is ahead of UTC: by its offset `+02`, `+0200` or `+02:00`, and by `Z`, which is UTC
unfoldable pub offset_in : List ℕ → Option ℤ
offset_in [] = None
offset_in (sign ∷ digits) =
    if sign == 90 then (if length digits == 0 then Some (pos 0) else None)
    else if nat_lt (length digits) 2 then None
    else do
      hour ← number_in (take 2 digits)
      minute ← offset_minutes_in (drop 2 digits)
      if nat_le hour 23 && nat_le minute 59 then by_sign sign (hour * 3600 + minute * 60) else None

-- the same, if there is an offset
unfoldable pub ahead_in : List ℕ → Option (Option ℤ)
ahead_in [] = Some None
ahead_in (b ∷ bytes) = do
  ahead ← offset_in (b ∷ bytes)
  Some (Some ahead)
