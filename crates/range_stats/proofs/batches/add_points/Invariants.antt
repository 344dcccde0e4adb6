use Rattle.std.proofs.Common.{◌≡◌, ◌+◌, ◌++◌, ◌≤◌, List, length, drop}
use Rattle.range_plane.specs.Plane.{Position}
use Rattle.range_plane.specs.Polygon.{IsPolygon}
use Rattle.range_stats.specs.Keys.{points_at}
use Rattle.range_stats.proofs.batches.add_points.Given as goal

abbrev pub invariant-loop-left : goal.invariant-loop-left
invariant-loop-left g l = record {
  within : l.left ≤ length l.indices;
  counted : l.hull.inserted + l.hull.skipped + l.left ≡ l.fn.hull.inserted + l.fn.hull.skipped + length l.indices;
  set : (S : List Position) → IsPolygon S l.fn.hull.corners → IsPolygon (points_at l.fixes.points (drop l.left l.indices) ++ S) l.hull.corners;
}

abbrev pub decreases-loop-left : goal.decreases-loop-left
decreases-loop-left g l = l.left
