use Rattle.std.proofs.Common.{◌≡◌, take}
use Rattle.split_counts.specs.Counts.{left_counts}
use Rattle.split_counts.proofs.counts.left_counts.Given as goal

abbrev pub invariant-loop-fate : goal.invariant-loop-fate
invariant-loop-fate g l = l.counts.items ≡ left_counts l.fn.animals (take l.fate-index l.fates)
