use Rattle.std.proofs.Common.{◌≡◌, false}
use Rattle.test_line.proofs.threads.take_all.Given as goal

abbrev pub invariant-loop : goal.invariant-loop
invariant-loop g l = (l.taker.line ≡ l.initial.taker.line) × (l.taker.files ≡ l.initial.taker.files) × (l.taker.ended ≡ false)
