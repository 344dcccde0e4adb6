use Rattle.std.proofs.Common.{◌≡◌, ◌+◌, ◌++◌, length, map, take}
use lib.Lanes.{chunk}
use Rattle.range_plane.specs.ConvexCover.{is_covered}
use Rattle.range_lanes.proofs.inside.flag_each.Given as goal

abbrev pub invariant-loop-i : goal.invariant-loop-i
invariant-loop-i g l = record {
  length : length l.flags ≡ length l.cols.points;
  flags : take (l.at + l.i) l.flags ≡ take l.at l.fn.flags ++ map (is_covered l.polygon) (chunk l.at l.i l.cols.points);
}
