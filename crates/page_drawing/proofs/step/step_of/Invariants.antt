use Rattle.std.proofs.Common.{ℕ, ◌*◌, ◌<◌}
use Rattle.page_drawing.specs.Steps.{size_at}
use Rattle.page_drawing.proofs.step.step_of.Given as goal

abbrev pub invariant-loop-place : goal.invariant-loop-place
invariant-loop-place l = (smaller : ℕ) → smaller < l.place → l.most * size_at smaller * l.whole < l.part
