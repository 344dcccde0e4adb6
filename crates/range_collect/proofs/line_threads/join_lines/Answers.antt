use Rattle.std.proofs.Common.{◌≡◌, ◌++◌, ◌∷◌, [], false, Some, length, slice_get, arith, rules, sym, ap, ◌∙◌, subst, append_assoc}
use Rattle.std.proofs.lemmas.List.{append-nil, length_push, nil_from_length}
use Rattle.std.specs.Vec.Iter.{into_iter_items}
use Rattle.range_fixes.specs.Reading.{readings}
use Rattle.range_collect.specs.LineFiles.{IsLineFollowed}
use Rattle.range_lemmas.proofs.Indices.{twos_pushed}
use Rattle.range_collect.proofs.line_threads.join_lines.Goals as goal

pub loop-handle-preserved-in-Ok : goal.loop-handle-preserved-in-Ok
loop-handle-preserved-in-Ok g c =
    let inv = c.loop-handle.invariant in
    let h = c.in-Some.handle in
    let step = c.in-Some.ensures.steps.0 in
    let steps = ap length step in
    let a = c.push_reserved.ensures in
    record {
      room = omega (arith, steps, inv.room, a.len, a.capacity);
      joined = λ fine.
          let j = inv.joined fine in (
            j.0 ++ h ∷ [],
            j.1 ∙ (ap (λ l. j.0 ++ l) step ∙ sym (append_assoc j.0 (h ∷ []) _)),
            (let d = length_push j.0 h in let n = ap length a.items in let l = length_push c.loop-handle.all.items c.in-Ok.results in
                omega (arith, d, n, l, j.2)),
            rw a.items (twos_pushed (λ h r. IsLineFollowed h.promise.stride.first h.promise.stride.step h.promise.plan.block
                (readings g.S.Read.remaining h.promise.plan.unit h.promise.sources.value.items) r.items)
                j.0 c.loop-handle.all.items h c.in-Ok.results j.2 j.3 c.in-Ok.ensures),
          );
    }

pub returns-else-refused : goal.returns-else-refused
returns-else-refused g c =
    let fine : c.loop-handle.refused ≡ false = search rules in
    let j = c.loop-handle.invariant.joined fine in
    let none : length (into_iter_items c.loop-handle.handle-iterator) ≡ 0 = search rules in
    let done = j.1 ∙ (ap (λ l. j.0 ++ l) (nil_from_length _ none) ∙ append-nil j.0) in
    let count = ap length done in
    record {
      count = omega (arith, count, j.2, c.args.handles.ok.0, c.loop-handle.all.ok.0);
      followed = λ index h r in_handles. j.3 index h r (subst (λ l. slice_get l index ≡ Some h) done in_handles);
    }
