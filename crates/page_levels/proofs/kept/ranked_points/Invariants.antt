use Rattle.std.proofs.Common.{◌≡◌, ◌≤◌, length, map, take, vec_capacity, vec_len}
use Rattle.range_plane.specs.Edges.{at}
use Rattle.page_levels.proofs.kept.ranked_points.Given as goal

abbrev pub invariant-loop-entry : goal.invariant-loop-entry
invariant-loop-entry l = record {
  ranked : l.ranked.items ≡ map (λ a. at l.points.points a.1) (take l.entry-index l.entry-items);
  count : vec_len l.ranked ≡ l.entry-index;
  room : length l.entry-items ≤ vec_capacity l.ranked;
}
