use Rattle.std.proofs.Common.{◌≡◌, ℕ, ◌+◌, ◌≤◌, ◌++◌, List, Some, slice_get, vec_len, vec_capacity, length}
use Rattle.std.specs.Vec.Iter.{into_iter_items}
use Rattle.range_fixes.specs.Reading.{reading_from}
use Rattle.range_line.specs.LineEnds.{FeederView}
use Rattle.range_pump.specs.Pump.{IsPumped, ReadResult}
use Rattle.range_collect.proofs.pumps.join_pumps.Given as goal

abbrev pub invariant-loop-handle : goal.invariant-loop-handle
invariant-loop-handle g l = record {
  feeders_room : vec_len l.feeders + length (into_iter_items l.handle-iterator) ≤ vec_capacity l.feeders;
  reads_room : vec_len l.reads + length (into_iter_items l.handle-iterator) ≤ vec_capacity l.reads;
  joined : (done : List _) × (l.fn.handles.items ≡ done ++ into_iter_items l.handle-iterator) × (length done ≡ length l.feeders.items)
      × (length done ≡ length l.reads.items)
      × ((index : ℕ) (h : _) (f : FeederView) (r : ReadResult) → slice_get done index ≡ Some h → slice_get l.feeders.items index ≡ Some f
      → slice_get l.reads.items index ≡ Some r
      → IsPumped (reading_from g.S.Read.remaining h.promise.plan.unit h.promise.source.value) h.promise.plan.block h.promise.feeder.value f r);
}
