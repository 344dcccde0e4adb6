use Rattle.std.proofs.Common.{◌≡◌, ◌*◌, take, count_by}
use Rattle.range_plane.specs.ConvexCover.{is_covered}
use Rattle.range_lanes.proofs.inside.count_by_edges.Given as goal

abbrev pub invariant-loop-group : goal.invariant-loop-group
invariant-loop-group g l = l.count ≡ count_by (is_covered l.corners) (take (8 * l.group) l.cols.points)
