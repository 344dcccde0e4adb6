use Rattle.std.proofs.Common.{◌≡◌}
use Rattle.range_analysis.proofs.AnimalPairs.{pairs_before}
use Rattle.range_analysis.proofs.overlap_rows.ordered_pairs.Given as goal

abbrev pub invariant-loop-animal : goal.invariant-loop-animal
invariant-loop-animal l = l.all.items ≡ pairs_before l.count l.animal
