use Rattle.range_plane.proofs.ForCallers.{polygon_of_its_corners}
use Rattle.range_plane.proofs.laws.polygon_of_its_corners.Goals as goal

pub returns : goal.returns
returns c = polygon_of_its_corners
