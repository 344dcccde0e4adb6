use Rattle.std.proofs.Common.{◌+◌, ◌≤◌, length}
use Rattle.page_influence.specs.Layers.{IsPolygonOf}
use Rattle.page_influence.proofs.Rest.{IsBefore}
use Rattle.page_influence.proofs.polygons.polygon_of_rest.Given as goal

abbrev pub invariant-loop-index : goal.invariant-loop-index
invariant-loop-index l = record {
  polygon : IsPolygonOf (IsBefore l.flags l.index) l.points.points l.hull.corners;
  counted : l.hull.inserted + l.hull.skipped ≤ l.index;
  room : length l.points.points ≤ l.hull.spare + l.index;
}
