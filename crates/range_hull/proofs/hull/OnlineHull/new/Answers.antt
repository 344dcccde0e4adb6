use Rattle.std.proofs.Common.{rules}
use Rattle.range_hull.proofs.hull.OnlineHull.new.Goals as goal

pub returns : goal.returns
returns g c = search rules
