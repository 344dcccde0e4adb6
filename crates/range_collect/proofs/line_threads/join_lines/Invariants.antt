use Rattle.std.proofs.Common.{◌≡◌, ◌+◌, ◌≤◌, ◌++◌, List, false, vec_len, vec_capacity, length}
use Rattle.std.specs.Vec.Iter.{into_iter_items}
use Rattle.range_fixes.specs.Reading.{readings}
use Rattle.range_collect.specs.LineFiles.{IsLineFollowed}
use Rattle.range_lemmas.proofs.Indices.{Twos}
use Rattle.range_collect.proofs.line_threads.join_lines.Given as goal

abbrev pub invariant-loop-handle : goal.invariant-loop-handle
invariant-loop-handle g l = record {
  room : vec_len l.all + length (into_iter_items l.handle-iterator) ≤ vec_capacity l.all;
  joined : l.refused ≡ false → (done : List _) × (l.fn.handles.items ≡ done ++ into_iter_items l.handle-iterator) × (length done ≡ length l.all.items)
      × Twos (λ h r. IsLineFollowed h.promise.stride.first h.promise.stride.step h.promise.plan.block
      (readings g.S.Read.remaining h.promise.plan.unit h.promise.sources.value.items) r.items) done l.all.items;
}
