use Rattle.range_analysis.proofs.AnimalPairs.{pairs_pushed}
use Rattle.range_analysis.proofs.overlap_rows.ordered_pairs.Goals as goal

pub loop-animal-preserved : goal.loop-animal-preserved
loop-animal-preserved c = pairs_pushed c.loop-animal.all.items c.push_pairs.new.pairs.items c.args.count c.loop-animal.animal c.loop-animal.invariant
    c.in_ok-push_pairs.ensures
