use Rattle.std.proofs.Common.{rules}
use Rattle.range_hull.proofs.hull.OnlineHull.points.Goals as goal

pub returns : goal.returns
returns g c = search rules
