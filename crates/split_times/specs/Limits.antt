-- Seconds of the calendar, and of texts.
use Rattle.std.specs.Prelude.{◌<◌, ◌≤◌, ◌^◌, ℤ, pos, neg_ℤ}
use Rattle.jiff_core.specs.Calendar.{IsBetween}
use Rattle.split_times.specs.declared.iso.TextTime.{TextTime}
use Rattle.split_times.specs.declared.iso.TextTime.TheVariants.{Utc, Local}

-- a minute of the calendar's days, counted in seconds from 1970
abbrev pub IsMinute : ℤ → Type 0
IsMinute z = IsBetween (neg_ℤ (pos 377_705_116_800)) (pos 253_402_300_740) z

-- a second of the calendar's days
abbrev pub IsLocalSecond : ℤ → Type 0
IsLocalSecond z = IsBetween (neg_ℤ (pos 377_705_116_800)) (pos 253_402_300_799) z

-- by how much a clock may be ahead of UTC
abbrev pub IsAhead : ℤ → Type 0
IsAhead z = IsBetween (neg_ℤ (pos 86_400)) (pos 86_400) z

-- a time of the calendar with less than a second beside its whole ones
abbrev pub IsTimely : TextTime → Type 0
IsTimely (Utc moment) = (moment.second ≤ 2 ^ 40) × (moment.nanosecond < 10 ^ 9)
IsTimely (Local time) = IsLocalSecond time.second × (time.nanosecond < 10 ^ 9)
