-- The feeders that a pump may be started with.
use Rattle.std.specs.Prelude.{◌≡◌, [], false}
use Rattle.range_line.specs.LineEnds.{FeederView}

-- the feeder has sent nothing and its line has not ended
abbrev pub IsNew : FeederView → Type 0
IsNew f = (f.closed ≡ false) × (f.ended ≡ false) × (f.sent ≡ [])
