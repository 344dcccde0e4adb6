-- The clock of a place.
use Rattle.std.specs.Prelude.{◌≡◌, ◌^◌, ⊤, ℕ, min, ℤ, pos, ◌+ℤ◌, ◌-ℤ◌, ◌≤ℤ◌, List, MatchOption, Option, Some, None, Ok}
use Rattle.jiff_core.specs.Timestamp.{nanos_of_seconds}
use Rattle.jiff_core.specs.declared.civil.datetime.DateTime.{DateTime}
use Rattle.jiff_tz.specs.Ambiguous.{compatible_offset}
use Rattle.jiff_tz.specs.Tzif as Table
use Rattle.jiff_tz.specs.TzifReader.{read_tzif}
use Rattle.jiff_tz.specs.Zone.{utc_offset}
use Rattle.jiff_tz.specs.declared.ambiguous.AmbiguousOffset.{AmbiguousOffset}
use Rattle.jiff_tz.specs.declared.ambiguous.AmbiguousOffset.TheVariants.{Unambiguous, Gap, Fold}
use Rattle.jiff_tz.specs.declared.tzif.Tzif.{Tzif}
use Rattle.split_clock.specs.Dates.{time_of}
use Rattle.split_clock.specs.declared.clock.TheConstants.{LAST_SECOND}
use Rattle.split_clock.specs.declared.clock.Moments.{Moments}
use Rattle.split_clock.specs.declared.clock.Moments.TheVariants as moments

-- the moments of a time on a clock that is so far ahead of UTC
abbrev pub moments_by : ℤ → AmbiguousOffset → Moments
moments_by local (Unambiguous offset) = moments.One (local -ℤ offset.seconds)
moments_by local (Gap before after) = moments.None
moments_by local (Fold before after) = moments.Two (local -ℤ before.seconds) (local -ℤ after.seconds)

-- by how much the clock of a zone was ahead of UTC when it showed a date and a time; without a zone it is that of UTC
abbrev pub ambiguous_at : Option Tzif → DateTime → AmbiguousOffset
ambiguous_at None time = Unambiguous utc_offset
ambiguous_at (Some zone) time = Table.ambiguous_at zone time

-- a second is one that a file may have, or is before 1970
abbrev pub IsEarlyEnough : ℤ → Type 0
IsEarlyEnough second = second ≤ℤ pos (2 ^ 40)

-- so are moments
abbrev pub AreEarlyEnough : Moments → Type 0
AreEarlyEnough moments.None = ⊤
AreEarlyEnough (moments.One second) = IsEarlyEnough second
AreEarlyEnough (moments.Two first second) = IsEarlyEnough first × IsEarlyEnough second

-- the moments at which the clock of a zone showed a second
unfoldable pub showed : Option Tzif → ℤ → Moments
showed zone local = moments_by local (ambiguous_at zone (time_of local))

-- the moment at which a day begins by the clock of a zone, of which the midnight is given: the midnight, and where the clock passed
-- over it, the moment at which it did, since there it shows midnight by the offset before
unfoldable pub begin_of : Option Tzif → ℤ → ℤ
begin_of zone midnight = midnight -ℤ (compatible_offset (ambiguous_at zone (time_of midnight))).seconds

-- by how much the clock of a zone is ahead of UTC at a second since 1970
abbrev pub offset_at : Option Tzif → ℕ → ℤ
offset_at None second = pos 0
offset_at (Some zone) second = (Table.offset_at zone (nanos_of_seconds (pos second))).seconds

-- the second that the clock of a zone shows at a second since 1970, counted from midnight of 1 January 1970
abbrev pub local_second : Option Tzif → ℕ → ℤ
local_second zone second = pos second +ℤ offset_at zone (min second LAST_SECOND)

-- a zone is what bytes are as one of the time zone database
abbrev pub IsZoneOf : List ℕ → Option Tzif → Type 0
IsZoneOf bytes zone = MatchOption zone ⊥ (λ table. read_tzif bytes ≡ Ok (Table.tzif_view table))
