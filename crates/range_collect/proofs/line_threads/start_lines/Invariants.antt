use Rattle.std.proofs.Common.{◌≡◌, ℕ, ◌+◌, ◌≤◌, ◌++◌, All, Some, map, slice_get, vec_len, vec_capacity, length}
use Rattle.std.specs.Vec.Iter.{into_iter_items}
use Rattle.range_options.specs.Limits.{file_limit}
use Rattle.range_collect.proofs.line_threads.start_lines.Given as goal

abbrev pub invariant-loop-sources : goal.invariant-loop-sources
invariant-loop-sources g l = record {
  sources : map (λ h. h.promise.sources.value) l.handles.items ++ into_iter_items l.sources-iterator ≡ l.fn.shares.items;
  stride : (index : ℕ) (h : _) → slice_get l.handles.items index ≡ Some h
      → (h.promise.stride.first ≡ index) × (h.promise.stride.step ≡ vec_len l.fn.shares) × (h.promise.plan ≡ l.fn.context.plan);
  sizes : All (λ share. (1 ≤ vec_len share) × (vec_len share ≤ file_limit)) (into_iter_items l.sources-iterator);
  first : l.first ≡ vec_len l.handles;
  step : l.step ≡ vec_len l.fn.shares;
  room : vec_len l.fn.shares ≤ vec_capacity l.handles;
  count : vec_len l.handles + length (into_iter_items l.sources-iterator) ≡ vec_len l.fn.shares;
}
