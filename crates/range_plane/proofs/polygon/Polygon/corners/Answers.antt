use Rattle.std.proofs.Common.{rules}
use Rattle.range_plane.proofs.polygon.Polygon.corners.Goals as goal

pub returns-clause-value : goal.returns-clause-value
returns-clause-value g c = search rules
