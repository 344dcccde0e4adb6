use Rattle.std.proofs.Common.{◌≡◌, false}
use Rattle.test_pump.proofs.faults.expect_pumped.Given as goal

abbrev pub invariant-loop-number : goal.invariant-loop-number
invariant-loop-number g l = l.taker.ended ≡ false
