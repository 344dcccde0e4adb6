use Rattle.std.proofs.Common.{refl}
use Rattle.range_plane.proofs.polygon.Polygon.of_corners.Goals as goal

pub returns : goal.returns
returns g c = refl
