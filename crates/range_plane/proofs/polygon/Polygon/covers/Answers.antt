use Rattle.std.proofs.Common.{rules}
use Rattle.range_plane.proofs.polygon.Polygon.covers.Goals as goal

pub returns : goal.returns
returns g c = search rules
