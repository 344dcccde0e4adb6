use Rattle.std.proofs.Common.{◌-◌, ◌≤◌, ℕ, Option, IfSome}
use Rattle.range_plane.specs.Fix.{fix_limit}
use Rattle.range_fixes.specs.Progress.{Reads}
use Rattle.range_fixes.specs.Reading.{Reading}
use Rattle.range_pump.proofs.Feedings.{IsUnderWay}
use Rattle.range_pump.proofs.file_pump.send_fixes.Given as goal

abbrev pub invariant-loop-more : goal.invariant-loop-more
invariant-loop-more g l = record {
  limit : l.reader.count ≤ fix_limit;
  count : ℕ;
  way : (source : Option Reading) → IfSome source (Reads l.fn.reader) → IsUnderWay source l.block l.fn.feeder l.reader l.feeder count;
}

abbrev pub decreases-loop-more : goal.decreases-loop-more
decreases-loop-more g l = fix_limit - l.reader.count
