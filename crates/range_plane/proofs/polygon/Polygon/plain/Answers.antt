use Rattle.range_plane.proofs.Polygons.{polygon_of_itself}
use Rattle.range_plane.proofs.polygon.Polygon.plain.Goals as goal

pub of_corners-requires : goal.of_corners-requires
of_corners-requires g c = polygon_of_itself _ _ c.in_ok-corners_of.ensures

pub returns : goal.returns
returns g c = rw c.of_corners.ensures c.in_ok-corners_of.ensures
