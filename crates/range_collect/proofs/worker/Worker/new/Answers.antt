use Rattle.std.proofs.Common.{◌++◌, [], ap, sym, ◌∙◌, arith, subst, List}
use Rattle.std.proofs.lemmas.List.Elements.{All-push}
use Rattle.range_line.specs.declared.message.Message.{Message}
use Rattle.range_line.specs.LineEnds.{files_from}
use Rattle.range_estimator.specs.Estimation.{Estimation}
use Rattle.range_collect.specs.Follow.{Holds}
use Rattle.range_collect.specs.Work.{EachHolds}
use Rattle.range_lemmas.proofs.Indices.{of_all}
use Rattle.range_collect.proofs.worker.Worker.new.Goals as goal

pub loop-made-preserved : goal.loop-made-preserved
loop-made-preserved g c =
    let inv = c.loop-made.invariant in
    let e : Estimation = c.new.result in
    let none = ap (λ (e : Estimation). e.fixes) c.new.ensures.value in
    let holds : Holds e [] = record { prefix = ([], ap (λ l. l ++ []) none); whole = λ _. none; estimate = c.new.ensures.estimate } in
    record {
      len = omega (arith, inv.len, c.push_reserved.ensures.len);
      room = omega (arith, inv.room, c.push_reserved.ensures.capacity);
      holds = rw c.push_reserved.ensures.items (All-push (λ (e : Estimation). Holds e []) c.loop-made.estimators.items e inv.holds holds);
    }

pub invariant_of-result : goal.invariant_of-result
invariant_of-result g c =
    let inv = c.loop-made.invariant in
    let stride = c.args.stride in
    let all : EachHolds stride.first stride.step [] c.loop-made.estimators.items =
    λ index e is. of_all (λ (e : Estimation). Holds e []) c.loop-made.estimators.items index e inv.holds is in (
      c.requires.files ∙ ap (files_from stride.first stride.step) (omega (arith, inv.len)),
      subst (λ (ms : List Message). EachHolds stride.first stride.step ms c.loop-made.estimators.items) (sym c.requires.fresh) all,
    )
