use Rattle.std.proofs.Common.{◌≡◌, drop}
use Rattle.split_fates.specs.Fates.{fates_from, fates_of}
use Rattle.split_fates.proofs.FateFacts.{with_fates}
use Rattle.split_fates.proofs.fates.fates_of.Given as goal

abbrev pub invariant-loop-index : goal.invariant-loop-index
invariant-loop-index g l = fates_of l.choice l.rows ≡ with_fates l.fates.items (fates_from l.choice l.index (drop l.index l.rows))
