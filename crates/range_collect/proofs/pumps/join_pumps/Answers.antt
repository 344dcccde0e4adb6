use Rattle.std.proofs.Common.{◌≡◌, ◌++◌, ◌∷◌, [], Some, slice_get, length, arith, sym, ap, ◌∙◌, subst, append_assoc, rules}
use Rattle.std.proofs.lemmas.List.{append-nil, nil_from_length}
use Rattle.std.specs.Vec.Iter.{into_iter_items}
use Rattle.std.proofs.lemmas.List.{length_push}
use Rattle.range_fixes.specs.Reading.{reading_from}
use Rattle.range_pump.specs.Pump.{IsPumped}
use Rattle.range_lemmas.proofs.Indices.{threes_pushed}
use Rattle.range_collect.proofs.pumps.join_pumps.Goals as goal

pub loop-handle-preserved : goal.loop-handle-preserved
loop-handle-preserved g c =
    let inv = c.loop-handle.invariant in
    let j = inv.joined in
    let h = c.in-Some.handle in
    let fs = c.loop-handle.feeders.items in
    let rs = c.loop-handle.reads.items in
    let step = c.in-Some.ensures.steps.0 in
    let steps = ap length step in
    let a = c.push_reserved.ensures in
    let b = c.push_reserved-in-loop-handle.ensures in
    record {
      feeders_room = omega (arith, steps, inv.feeders_room, a.len, a.capacity);
      reads_room = omega (arith, steps, inv.reads_room, b.len, b.capacity);
      joined = (
        j.0 ++ h ∷ [],
        j.1 ∙ (ap (λ l. j.0 ++ l) step ∙ sym (append_assoc j.0 (h ∷ []) _)),
        (let d = length_push j.0 h in let n = ap length a.items in let l = length_push fs c.join-feeder.result.feeder in omega (arith, d, n, l, j.2)),
        (let d = length_push j.0 h in let n = ap length b.items in let l = length_push rs c.join-feeder.result.read in omega (arith, d, n, l, j.3)),
        rw (a.items, b.items) (threes_pushed (λ h f r. IsPumped (reading_from g.S.Read.remaining h.promise.plan.unit h.promise.source.value)
            h.promise.plan.block h.promise.feeder.value f r) j.0 fs rs h c.join-feeder.result.feeder c.join-feeder.result.read j.2 j.3 j.4
            c.join-feeder.ensures),
      );
    }

pub returns-clause-pumped : goal.returns-clause-pumped
returns-clause-pumped g c = λ index h f r in_handles.
    let j = c.loop-handle.invariant.joined in
    let none : length (into_iter_items c.loop-handle.handle-iterator) ≡ 0 = search rules in
    let all = j.1 ∙ (ap (λ l. j.0 ++ l) (nil_from_length _ none) ∙ append-nil j.0) in
    j.4 index h f r (subst (λ l. slice_get l index ≡ Some h) all in_handles)
