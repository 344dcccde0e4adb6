use Rattle.std.proofs.Common.{◌≡◌, false}
use Rattle.test_line.proofs.threads.send_all.Given as goal

abbrev pub invariant-loop-second : goal.invariant-loop-second
invariant-loop-second g l = (l.feeder.line ≡ l.initial.feeder.line) × (l.feeder.file ≡ l.initial.feeder.file) × (l.feeder.closed ≡ false)
    × (l.feeder.ended ≡ false)
