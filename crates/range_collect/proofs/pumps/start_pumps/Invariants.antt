use Rattle.std.proofs.Common.{◌≡◌, ◌+◌, ◌≤◌, ◌++◌, All, map, vec_len, vec_capacity, length}
use Rattle.std.specs.Vec.Iter.{into_iter_items}
use Rattle.range_collect.specs.Fresh.{IsNew}
use Rattle.range_collect.proofs.pumps.start_pumps.Given as goal

abbrev pub invariant-loop-source : goal.invariant-loop-source
invariant-loop-source g l = record {
  sources : map (λ h. h.promise.source.value) l.handles.items ++ into_iter_items l.source-iterator ≡ l.fn.sources.items;
  feeders : map (λ h. h.promise.feeder.value) l.handles.items ++ into_iter_items l.feeders ≡ l.fn.feeders.items;
  plans : All (λ h. h.promise.plan ≡ l.fn.context.plan) l.handles.items;
  fresh : All IsNew (into_iter_items l.feeders);
  same : length (into_iter_items l.source-iterator) ≡ length (into_iter_items l.feeders);
  room : vec_len l.fn.sources ≤ vec_capacity l.handles;
  count : vec_len l.handles + length (into_iter_items l.source-iterator) ≡ vec_len l.fn.sources;
}
