use Rattle.range_analysis.proofs.AnimalPairs.{pair_left_out, pair_pushed}
use Rattle.range_analysis.proofs.overlap_rows.push_pairs.Goals as goal
use Rattle.range_analysis.proofs.overlap_rows.push_pairs.Goals.{then-range-animal+in_ok-push, else-range-animal}

pub loop-range-preserved : goal.loop-range-preserved
loop-range-preserved c =
    let before = c.args.pairs.now.items in
    let pairs = c.loop-range.pairs.items in
    elim c.if-range-animal.branch [
      | then-range-animal+in_ok-push w ↦ rw (w.pairs-is, w.in_ok-push.ensures.items)
          (pair_pushed before pairs c.args.animal c.loop-range.range w.if-range-animal.true c.loop-range.invariant)
      | else-range-animal w ↦ rw w.pairs-is (pair_left_out before pairs c.args.animal c.loop-range.range w.if-range-animal.false c.loop-range.invariant)
    ]
