-- The hour that comes twice.
use Rattle.std.specs.Prelude.{ℕ, ◌==◌, nat_lt, Bool, true, false, ◌&&◌, ◌||◌, if◌then◌else◌, Option, Some, None, Result, Ok, Err, ℤ, pos, int_lt, unsigned_abs}
use Rattle.jiff_tz.specs.declared.tzif.Tzif.{Tzif}
use Rattle.split_times.specs.declared.iso.TextTime.{TextTime}
use Rattle.split_times.specs.declared.iso.TextTime.TheVariants.{Utc, Local}
use Rattle.split_times.specs.declared.moment.Moment.{Moment}
use Rattle.split_clock.specs.Clock.{showed}
use Rattle.split_clock.specs.declared.clock.Moments.{Moments}
use Rattle.split_clock.specs.declared.clock.Moments.TheVariants as moments
use Rattle.split_clock.specs.declared.twice.ClockMoment.{ClockMoment}
use Rattle.split_clock.specs.declared.twice.NoMoment.{NoMoment}
use Rattle.split_clock.specs.declared.twice.NoMoment.TheVariants.{PassedOver, Before1970}

-- whether a moment is earlier than another
abbrev pub is_earlier : Moment → Moment → Bool
is_earlier moment other = nat_lt moment.second other.second || moment.second == other.second && nat_lt moment.nanosecond other.nanosecond

-- the first of two moments, unless the record before of the same animal is later than that; then the second
abbrev pub chosen : Moment → Moment → Option Moment → Moment
chosen first second None = first
chosen first second (Some before) = if is_earlier first before then second else first

-- the moment of a second since 1970 in UTC and of nanoseconds
abbrev pub moment_at : ℤ → ℕ → Result Moment NoMoment
moment_at second nanosecond = if int_lt second (pos 0) then Err Before1970 else Ok (record { second = unsigned_abs second; nanosecond = nanosecond })

-- what is found, and then what is found by it
infixl 10 ◌>>=◌
abbrev pub ◌>>=◌ : {A B : Type 0} → Result A NoMoment → (A → Result B NoMoment) → Result B NoMoment
(Err fault) >>= f = Err fault
(Ok x) >>= f = f x

-- one of two moments
unfoldable pub one_of : ℤ → ℤ → ℕ → Option Moment → Result Moment NoMoment
one_of first second nanosecond before = do
  one ← moment_at first nanosecond
  other ← moment_at second nanosecond
  Ok (chosen one other before)

-- the moment of a record by the moments at which the clock showed its time
abbrev pub moment_by : Moments → ℕ → Option Moment → Result ClockMoment NoMoment
moment_by moments.None nanosecond before = Err PassedOver
moment_by (moments.One second) nanosecond before = moment_at second nanosecond >>= (λ moment. Ok (record { moment = moment; is_local = true; is_twice = false }))
moment_by (moments.Two first second) nanosecond before = one_of first second nanosecond before >>= (λ moment. Ok (record { moment = moment; is_local = true; is_twice = true }))

-- the moment of a record of a time by the clock of a zone, behind a record of the same animal that has this moment: of a time in
-- UTC its moment, and of one that the clock showed that of the moments at which it did
abbrev pub clock_moment_in : Option Tzif → Option Moment → TextTime → Result ClockMoment NoMoment
clock_moment_in table before (Utc moment) = Ok (record { moment = moment; is_local = false; is_twice = false })
clock_moment_in table before (Local time) = moment_by (showed table time.second) time.nanosecond before
