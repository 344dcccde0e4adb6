use Rattle.std.proofs.Common.{◌≡◌, ◌+◌, ◌≤◌, length, reverse, take}
use Rattle.range_plane.specs.Polygon.{IsPolygon}
use Rattle.page_levels.proofs.kept.polygon_of.Given as goal

abbrev pub invariant-loop-point : goal.invariant-loop-point
invariant-loop-point l = record {
  polygon : IsPolygon (reverse (take l.point-index l.points)) l.hull.corners;
  counted : l.hull.inserted + l.hull.skipped ≡ l.point-index;
  room : length l.points ≤ l.hull.spare + l.point-index;
}
