use Rattle.std.proofs.Common.{◌≡◌, ◌+◌, ◌++◌, ◌≤◌, List, length, drop}
use Rattle.range_plane.specs.Plane.{Position}
use Rattle.range_plane.specs.Polygon.{IsPolygon}
use Rattle.page_influence.proofs.polygons.insert_all.Given as goal

abbrev pub invariant-loop-left : goal.invariant-loop-left
invariant-loop-left l = record {
  within : l.left ≤ length l.points;
  room : l.fn.hull.spare + l.left ≤ l.hull.spare + length l.points;
  counted : l.hull.inserted + l.hull.skipped + l.left ≡ l.fn.hull.inserted + l.fn.hull.skipped + length l.points;
  set : (S : List Position) → IsPolygon S l.fn.hull.corners → IsPolygon (drop l.left l.points ++ S) l.hull.corners;
}

abbrev pub decreases-loop-left : goal.decreases-loop-left
decreases-loop-left l = l.left
