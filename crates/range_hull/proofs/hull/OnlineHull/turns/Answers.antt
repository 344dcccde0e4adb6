use Rattle.std.proofs.Common.{rules}
use Rattle.range_hull.proofs.hull.OnlineHull.turns.Goals as goal

pub returns-clause-value : goal.returns-clause-value
returns-clause-value g c = search rules
