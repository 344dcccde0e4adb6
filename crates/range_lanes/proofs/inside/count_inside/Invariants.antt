use Rattle.std.proofs.Common.{◌≡◌, take, count_by}
use Rattle.range_plane.specs.ConvexCover.{is_covered}
use Rattle.range_lanes.proofs.inside.count_inside.Given as goal

abbrev pub invariant-loop-i : goal.invariant-loop-i
invariant-loop-i g l = l.count ≡ count_by (is_covered l.corners) (take l.i l.cols.points)
