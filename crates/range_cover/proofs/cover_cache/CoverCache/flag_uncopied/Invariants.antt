use Rattle.std.proofs.Common.{◌≡◌, ◌+◌, ◌≤◌, length, map, take, vec_capacity, vec_len}
use Rattle.range_plane.specs.ConvexCover.{is_covered}
use Rattle.range_cover.proofs.cover_cache.CoverCache.flag_uncopied.Given as goal

abbrev pub invariant-loop-i : goal.invariant-loop-i
invariant-loop-i g l = record {
  copy : l.self-inside.copy ≡ l.initial.self-inside.copy;
  flags : l.self-inside.flags.items ≡ map (is_covered l.hull.corners) (take l.i l.points.points);
  room : vec_len l.self-inside.flags + length l.points.points ≤ vec_capacity l.self-inside.flags + l.i;
}
