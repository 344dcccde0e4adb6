use Rattle.std.proofs.Common.{◌∙◌, ◌∷◌, [], ap, get_or, sym, take}
use Rattle.std.proofs.lemmas.List.{take_more}
use Rattle.split_pace.specs.Leave.{fates_after}
use Rattle.split_pace.proofs.Leaving.{left_more, left_none}
use Rattle.split_pace.proofs.leave.leave_all.Goals as goal

pub loop-number-init : goal.loop-number-init
loop-number-init c = left_none c.args.reason c.args.fates.now

pub loop-number-preserved : goal.loop-number-preserved
loop-number-preserved c =
    let numbers = c.args.numbers.now in
    let k = c.loop-number.number-index in
    let reason = c.args.reason in
    let first = c.args.fates.now in
    c.leave_one.ensures
    ∙ (ap (fates_after reason (get_or numbers k 0 ∷ [])) c.loop-number.invariant
    ∙ (left_more reason (take k numbers) (get_or numbers k 0) first ∙ ap (λ l. fates_after reason l first) (sym (take_more numbers k 0 c.loop-number-test.true))))
