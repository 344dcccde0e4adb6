use Rattle.std.proofs.Common.{◌≡◌, ◌+◌, ◌++◌, ◌≤◌, List, length, drop}
use Rattle.range_plane.specs.Plane.{Position}
use Rattle.range_plane.specs.Polygon.{IsPolygon}
use Rattle.range_stats.proofs.batches.add_flagged.Given as goal

abbrev pub invariant-loop-left : goal.invariant-loop-left
invariant-loop-left g l = record {
  within : l.left ≤ length l.batch.points;
  room : l.left ≤ l.hull.spare;
  counted : l.hull.inserted + l.hull.skipped + l.left ≡ l.fn.hull.inserted + l.fn.hull.skipped + length l.batch.points;
  set : (S : List Position) → IsPolygon S l.fn.hull.corners → IsPolygon (drop l.left l.batch.points ++ S) l.hull.corners;
}

abbrev pub decreases-loop-left : goal.decreases-loop-left
decreases-loop-left g l = l.left
