-- Moments of ISO texts.
use Rattle.std.specs.Prelude.{ℕ, ◌-◌, ◌*◌, ◌^◌, ◌==◌, nat_lt, ◌||◌, if◌then◌else◌, List, [], length, take, drop, Option, Some, None, Result, Ok, Err, ℤ, pos, ◌+ℤ◌, ◌-ℤ◌, ◌*ℤ◌, int_lt, unsigned_abs}
use Rattle.std.specs.List.{position_or_len}
use Rattle.std.specs.Option.{unwrap_or}
use Rattle.split_times.specs.Calendar.{◌>>=◌}
use Rattle.split_times.specs.Fields.{number_in, day_in, clock_in, second_in, ahead_in}
use Rattle.split_times.specs.declared.iso.TextTime.{TextTime}
use Rattle.split_times.specs.declared.iso.TextTime.TheVariants.{Utc, Local}
use Rattle.split_times.specs.declared.moment.Moment.{Moment}
use Rattle.split_times.specs.declared.moment.TimeFault.{TimeFault}
use Rattle.split_times.specs.declared.moment.TimeFault.TheVariants.{NotTime, MoreThanNineDecimals, Before1970}

-- a time: the second since 1970 that a clock shows, negative before it, by how many seconds this clock is ahead of UTC, if
-- that is said, and the digits of the fraction
pub record IsoTime : Type 0 where
  pub second : ℤ
  pub ahead : Option ℤ
  pub decimals : List ℕ

-- where an offset begins behind the minutes: at the first `Z`, `+` or `-`
abbrev pub offset_place : List ℕ → ℕ
offset_place rest = position_or_len (λ b. b == 90 || b == 43 || b == 45) rest

-- the time of seconds and of an offset behind a minute
unfoldable pub time_behind_minute : ℤ → List ℕ → List ℕ → Option IsoTime
time_behind_minute minute seconds offset = do
  second ← second_in seconds
  ahead ← ahead_in offset
  Some (record { second = minute +ℤ pos second; ahead = ahead; decimals = drop 4 seconds })

-- the time of what stands behind a day: of nothing it is midnight
unfoldable pub time_behind_day : ℤ → List ℕ → Option IsoTime
time_behind_day day [] = Some (record { second = day *ℤ pos 86400; ahead = None; decimals = [] })
time_behind_day day behind =
    if nat_lt (length behind) 6 then None
    else do
      clock ← clock_in (take 6 behind)
      time_behind_minute (day *ℤ pos 86400 +ℤ pos clock) (take (offset_place (drop 6 behind)) (drop 6 behind)) (drop (offset_place (drop 6 behind)) (drop 6 behind))

-- the time of a text; none where it has another form, or there is no such day or clock
unfoldable pub time_in : List ℕ → Option IsoTime
time_in text =
    if nat_lt (length text) 10 then None
    else do
      day ← day_in (take 10 text)
      time_behind_day day (drop 10 text)

-- the nanoseconds of a fraction of at most nine digits: with zeros behind them they are nine
abbrev pub nanoseconds : List ℕ → ℕ
nanoseconds decimals = unwrap_or (number_in decimals) 0 * 10 ^ (9 - length decimals)

-- the second since 1970 in UTC of a time by a clock that is so far ahead of it
abbrev pub second_of : ℤ → Option ℤ → ℤ
second_of second None = second
second_of second (Some ahead) = second -ℤ ahead

-- the moment of a second since 1970 in UTC and of nanoseconds
abbrev pub moment_at : ℤ → ℕ → Result Moment TimeFault
moment_at second nanosecond = if int_lt second (pos 0) then Err Before1970 else Ok (record { second = unsigned_abs second; nanosecond = nanosecond })

-- the moment of a time, or the first fault that it has
unfoldable pub moment_of : Option IsoTime → Result Moment TimeFault
moment_of None = Err NotTime
moment_of (Some t) =
    if nat_lt 9 (length t.decimals) then Err MoreThanNineDecimals
    else moment_at (second_of t.second t.ahead) (nanoseconds t.decimals)

-- the moment of an ISO text
abbrev pub iso_moment_in : List ℕ → Result Moment TimeFault
iso_moment_in text = moment_of (time_in text)

-- a moment that is one of UTC, or its fault
abbrev pub utc_moment : Result Moment TimeFault → Result TextTime TimeFault
utc_moment (Ok moment) = Ok (Utc moment)
utc_moment (Err fault) = Err fault

-- a time by its clock, or by UTC where it is said how far the clock is ahead
abbrev pub time_by : ℤ → Option ℤ → ℕ → Result TextTime TimeFault
time_by second None nanosecond = Ok (Local (record { second = second; nanosecond = nanosecond }))
time_by second (Some ahead) nanosecond = utc_moment (moment_at (second -ℤ ahead) nanosecond)

-- the same of a time, or the first fault that it has
unfoldable pub text_time_of : Option IsoTime → Result TextTime TimeFault
text_time_of None = Err NotTime
text_time_of (Some t) = if nat_lt 9 (length t.decimals) then Err MoreThanNineDecimals else time_by t.second t.ahead (nanoseconds t.decimals)

-- the time of an ISO text
abbrev pub iso_time_in : List ℕ → Result TextTime TimeFault
iso_time_in text = text_time_of (time_in text)
