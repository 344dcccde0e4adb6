-- The zone of a clock that is named or not.
use Rattle.std.specs.Prelude.{Option, Some, None}
use Rattle.std.specs.Borrow.{Bor}
use Rattle.jiff_tz.specs.declared.tzif.Tzif.{Tzif}
use Rattle.split_clock.specs.declared.clock.Clock.{Clock}

-- the zone of a clock; without a clock it is none, which is UTC
abbrev pub zone_of : Option (Bor Clock) → Option Tzif
zone_of None = None
zone_of (Some clock) = clock.now.zone
