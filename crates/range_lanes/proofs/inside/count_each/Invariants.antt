use Rattle.std.proofs.Common.{◌≡◌, count_by}
use lib.Lanes.{chunk}
use Rattle.range_plane.specs.ConvexCover.{is_covered}
use Rattle.range_lanes.proofs.inside.count_each.Given as goal

abbrev pub invariant-loop-index : goal.invariant-loop-index
invariant-loop-index g l = l.count ≡ count_by (is_covered l.polygon) (chunk l.at l.index l.cols.points)
