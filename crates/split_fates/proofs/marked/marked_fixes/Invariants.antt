use Rattle.std.proofs.Common.{◌≡◌, map, take}
use Rattle.split_fates.specs.Marked.{fix_at}
use Rattle.split_fates.proofs.marked.marked_fixes.Given as goal

abbrev pub invariant-loop-entry : goal.invariant-loop-entry
invariant-loop-entry g l = l.fixes.items ≡ map (fix_at l.shift) (take l.entry-index l.track)
