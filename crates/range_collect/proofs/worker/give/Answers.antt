use Rattle.std.proofs.Common.{◌≡◌, ℕ, ◌+◌, ◌*◌, ◌-◌, ◌/◌, ◌<◌, subst, sym, ◌∙◌, length, slice_get, Some, ap, refl, arith}
use Rattle.std.proofs.lemmas.Option.{slice_get_read}
use Rattle.range_estimator.specs.Estimation.{Estimation}
use Rattle.range_collect.specs.Follow.{Holds}
use Rattle.range_line.specs.Messages.{fixes}
use Rattle.range_collect.proofs.EstimatorStates.{each_holds_more, few, is_at}
use Rattle.range_collect.proofs.worker.give.Goals as goal

pub overflow_sub-index : goal.overflow_sub-index
overflow_sub-index g c =
    let a = is_at c.args.stride.first c.args.stride.step
    (length c.args.estimators.now.items) c.args.message.file c.args.stride.within.1 c.requires.next.1.of_line in
    let file = a.file_is in omega (arith, file)

pub index_mut-requires : goal.index_mut-requires
index_mut-requires g c =
    let a = is_at c.args.stride.first c.args.stride.step
    (length c.args.estimators.now.items) c.args.message.file c.args.stride.within.1 c.requires.next.1.of_line in
    let below = a.below in let index = a.index in omega (arith, below, index, c.args.estimators.now.ok.0)

pub receive-requires : goal.receive-requires
receive-requires g c =
    let n = c.args.stride in
    let at = is_at c.args.stride.first c.args.stride.step
    (length c.args.estimators.now.items) c.args.message.file c.args.stride.within.1 c.requires.next.1.of_line in
    let es = c.args.estimators.now.items in
    let taken = c.requires.next.1 in
    let e : Estimation = c.index_mut.result.now in
    let index : ℕ = (c.args.message.file - n.first) / n.step in
    let below : index < length es = (let b = at.below in let i = at.quotient in omega (arith, b, i)) in
    let here : slice_get es at.index ≡ Some e = subst (λ (p : ℕ). slice_get es p ≡ Some e) at.quotient
    (slice_get_read es (length es) index e refl below c.index_mut.ensures.value) in
    let holds : Holds e (fixes c.requires.next.0 c.args.message.file) =
    subst (λ (file : ℕ). Holds e (fixes c.requires.next.0 file)) (sym at.file_is) (taken.holds at.index e here) in
    record { few = λ running. few c.requires.next.0 c.args.message e taken.lawful holds running }

pub returns-clause-holds : goal.returns-clause-holds
returns-clause-holds g c = λ taken holds.
    let n = c.args.stride in
    let at = is_at c.args.stride.first c.args.stride.step
    (length c.args.estimators.now.items) c.args.message.file c.args.stride.within.1 c.requires.next.1.of_line in
    let es = c.args.estimators.now.items in
    let e : Estimation = c.index_mut.result.now in
    let index : ℕ = (c.args.message.file - n.first) / n.step in
    let below : index < length es = (let b = at.below in let i = at.quotient in omega (arith, b, i)) in
    let file : c.args.message.file ≡ n.first + index * n.step = at.file_is ∙ ap (λ (p : ℕ). n.first + p * n.step) (sym at.quotient) in
    each_holds_more n.first n.step taken c.args.message es index e c.receive.new.estimator n.within.1 file
    (slice_get_read es (length es) index e refl below c.index_mut.ensures.value) c.receive.ensures holds
