use Rattle.std.proofs.Common.{◌≡◌, take, map}
use Rattle.range_plane.specs.ConvexCover.{is_covered}
use Rattle.range_lanes.proofs.inside.mark_inside.Given as goal

abbrev pub invariant-loop-i : goal.invariant-loop-i
invariant-loop-i g l = take l.i l.flags ≡ map (is_covered l.corners) (take l.i l.cols.points)
