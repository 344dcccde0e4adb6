use Rattle.std.proofs.Common.{◌≡◌, ◌*◌, take, map}
use Rattle.range_plane.specs.ConvexCover.{is_covered}
use Rattle.range_lanes.proofs.inside.flag_by_inner.Given as goal

abbrev pub invariant-loop-group : goal.invariant-loop-group
invariant-loop-group g l = take (8 * l.group) l.flags ≡ map (is_covered l.polygon) (take (8 * l.group) l.cols.points)
