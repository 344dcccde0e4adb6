use Rattle.std.proofs.Common.{◌≡◌, ◌≤◌, length, map, vec_capacity, vec_len}
use Rattle.std.specs.List.{range_with_len}
use Rattle.range_stats.specs.Percent.{entry}
use Rattle.page_levels.proofs.distances.entries_of.Given as goal

abbrev pub invariant-loop-index : goal.invariant-loop-index
invariant-loop-index l = record {
  entries : l.entries.items ≡ map (entry l.points.points) (range_with_len 0 l.index);
  count : vec_len l.entries ≡ l.index;
  room : length l.points.points ≤ vec_capacity l.entries;
}
