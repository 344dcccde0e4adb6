use Rattle.std.proofs.Common.{◌≡◌}
use Rattle.split_join.proofs.JoinedFacts.{SoFar}
use Rattle.split_join.proofs.check.pass_all.Given as goal

abbrev pub invariant-loop-count : goal.invariant-loop-count
invariant-loop-count l = record {
  so_far : SoFar l.fn.part.left l.part.left l.fn.whole.left l.whole.left l.count;
  titles : l.whole.titles ≡ l.fn.whole.titles;
}
