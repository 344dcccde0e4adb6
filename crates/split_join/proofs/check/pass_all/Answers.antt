use Rattle.std.proofs.Common.{◌∙◌}
use Rattle.split_join.proofs.JoinedFacts.{more}
use Rattle.split_join.proofs.check.pass_all.Goals as goal

pub loop-count-preserved : goal.loop-count-preserved
loop-count-preserved c = record {
  so_far = more _ _ _ _ _ _ _ _ c.loop-count.invariant.so_far
      (rw c.in-Ok-true.field-0-test at c.in-Ok-true.ensures.takes) (rw c.current.ensures at c.in_ok-pass-in-Ok-true.ensures.passed);
  titles = c.pass.ensures.titles ∙ c.loop-count.invariant.titles;
}
