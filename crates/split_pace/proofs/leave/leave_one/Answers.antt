use Rattle.split_pace.proofs.Leaving.{none_left, one_left, zero_left}
use Rattle.split_pace.proofs.leave.leave_one.Goals as goal
use Rattle.split_pace.proofs.leave.leave_one.Goals.{else-number-gt0-via-then-number-gt0+else-number-fates, else-number-gt0-via-else-number-gt0}

pub returns-then-number-fates : goal.returns-then-number-fates
returns-then-number-fates c = one_left c.args.reason c.args.number c.args.fates.now _ c.left_fate.result c.if-number-gt0.true c.if-number-fates.true c.left_fate.ensures

pub returns-else-number-gt0 : goal.returns-else-number-gt0
returns-else-number-gt0 c =
    elim c.else-number-gt0.branch [
      | else-number-gt0-via-then-number-gt0+else-number-fates w ↦ none_left c.args.reason c.args.number c.args.fates.now w.if-number-fates.false
      | else-number-gt0-via-else-number-gt0 w ↦ zero_left c.args.reason c.args.number c.args.fates.now w.if-number-gt0.false
    ]
