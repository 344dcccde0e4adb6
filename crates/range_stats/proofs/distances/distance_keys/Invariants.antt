use Rattle.std.proofs.Common.{◌≡◌, ◌≤◌, length, map, vec_capacity, vec_len}
use Rattle.std.specs.List.{range_with_len}
use Rattle.range_stats.specs.Keys.{key_of}
use Rattle.range_stats.specs.Percent.{entry}
use Rattle.range_stats.proofs.distances.distance_keys.Given as goal

abbrev pub invariant-loop-index : goal.invariant-loop-index
invariant-loop-index g l = record {
  keys : l.keys.items ≡ map (λ i. key_of (entry l.fixes.points i)) (range_with_len 0 l.index);
  count : vec_len l.keys ≡ l.index;
  room : length l.fixes.points ≤ vec_capacity l.keys;
}
