-- When a record was.
use Rattle.std.specs.Prelude.{◌≤◌, ◌<◌, ℕ, ◌-◌, ◌==◌, false, nat_le, if◌then◌else◌, List, [], ◌∷◌, length, drop, Option, Some, None, Result, Ok, Err}
use Rattle.std.specs.List.{flat_map, list_any}
use Rattle.range_plane.specs.Fix.{second_limit}
use Rattle.split_clock.specs.Twice.{clock_moment_in}
use Rattle.split_clock.specs.Zone.{zone_of}
use Rattle.split_clock.specs.declared.twice.ClockMoment.{ClockMoment}
use Rattle.split_clock.specs.declared.twice.NoMoment.{NoMoment}
use Rattle.split_times.specs.Number.{seconds_in}
use Rattle.split_times.specs.Text.{text_time}
use Rattle.split_times.specs.declared.iso.TextTime.{TextTime}
use Rattle.split_times.specs.declared.moment.Moment.{Moment}
use Rattle.split_times.specs.declared.text.TextFault.{TextFault}
use Rattle.split_times.specs.declared.text.TextFault.TheVariants as text
use Rattle.split_reading.specs.declared.fault.CellFault.{CellFault}
use Rattle.split_reading.specs.declared.fault.CellFault.TheVariants.{NoTime, NotSecond, Number, Time}
use Rattle.split_reading.specs.declared.fault.CellFault.TheVariants as faults
use Rattle.split_reading.specs.declared.rules.Rules.{Rules}
use Rattle.split_reading.specs.Cells.{◌>>=◌, Record, cell, is_missing}

-- the text of the time of a record that stands in these columns: what they have, with a blank between; empty where one has nothing
abbrev pub text_in : Rules → List ℕ → Record → List ℕ
text_in rules columns fields =
    if list_any (λ column. is_missing (cell rules fields column)) columns then []
    else drop 1 (flat_map (λ column. 32 ∷ cell rules fields column) columns)

-- the text of the time of a record
abbrev pub time_text : Rules → Record → List ℕ
time_text rules fields = text_in rules rules.time.now fields

-- a moment of which no clock was asked
abbrev pub plain : Moment → ClockMoment
plain moment = record { moment = moment; is_local = false; is_twice = false }

-- a whole second
abbrev pub at_second : ℕ → ClockMoment
at_second second = plain (record { second = second; nanosecond = 0 })

-- seconds that were found and that a file may have, or the fault that there are none
abbrev pub found_second : Option Moment → Result ClockMoment CellFault
found_second None = Err NotSecond
found_second (Some moment) = if nat_le moment.second second_limit then Ok (plain moment) else Err NotSecond

-- seconds since a start of one's own
abbrev pub second_in : List ℕ → Result ClockMoment CellFault
second_in text = found_second (seconds_in text)

-- a time that was found, or why there is none
abbrev pub found_time : Result TextTime TextFault → Result TextTime CellFault
found_time (Ok time) = Ok time
found_time (Err (text.Time fault)) = Err (Time fault)
found_time (Err (text.Number fault)) = Err (Number fault)

-- a moment that a clock has, or why it has none
abbrev pub found_moment : Result ClockMoment NoMoment → Result ClockMoment CellFault
found_moment (Ok moment) = Ok moment
found_moment (Err fault) = Err (faults.Clock fault)

-- the moment of a time by the clock, of a record behind one of the same animal
abbrev pub clocked : Rules → Option Moment → TextTime → Result ClockMoment CellFault
clocked rules before time = found_moment (clock_moment_in (zone_of rules.clock) before time)

-- the moment of a text that is a time
abbrev pub text_moment : Rules → Option Moment → List ℕ → Result ClockMoment CellFault
text_moment rules before text =
    if length text == 0 then Err NoTime
    else if rules.is_second then second_in text
    else (found_time (text_time rules.forms text) >>= clocked rules before)

-- the moment of a record of this number behind one of the same animal; without a column of times records stand in the order of time
abbrev pub moment_in : Rules → ℕ → Option Moment → Record → Result ClockMoment CellFault
moment_in rules number before fields =
    if length rules.time.now == 0 then Ok (at_second (number - 1)) else text_moment rules before (time_text rules fields)

-- a moment that a file may have, with less than a second beside its whole ones
abbrev pub IsTimelyMoment : Moment → Type 0
IsTimelyMoment moment = (moment.second ≤ second_limit) × (moment.nanosecond < 1_000_000_000)
