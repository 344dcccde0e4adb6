use Rattle.std.proofs.Common.{◌≡◌, ◌-◌, ◌≤◌, take}
use Rattle.range_fixes.specs.Progress.{Reads}
use Rattle.range_fixes.specs.Reading.{reading}
use Rattle.range_plane.specs.Fix.{fix_limit}
use Rattle.page_levels.proofs.track.fixes_of.Given as goal

abbrev pub invariant-loop-fixes : goal.invariant-loop-fixes
invariant-loop-fixes l = record {
  reads : Reads l.reader (reading l.fn.unit l.track);
  fixes : l.fixes.items ≡ take l.reader.count (reading l.fn.unit l.track).fixes;
  few : l.reader.count ≤ fix_limit;
}

abbrev pub decreases-loop-fixes : goal.decreases-loop-fixes
decreases-loop-fixes l = fix_limit - l.reader.count
