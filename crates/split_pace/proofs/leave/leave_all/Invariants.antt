use Rattle.std.proofs.Common.{◌≡◌, take}
use Rattle.split_pace.specs.Leave.{fates_after}
use Rattle.split_pace.proofs.leave.leave_all.Given as goal

abbrev pub invariant-loop-number : goal.invariant-loop-number
invariant-loop-number l = l.fates ≡ fates_after l.reason (take l.number-index l.numbers) l.fn.fates
