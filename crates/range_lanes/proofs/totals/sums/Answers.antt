use Rattle.std.proofs.Common.{rules}
use Rattle.range_lanes.proofs.totals.sums.Goals as goal

pub returns-clause-northings : goal.returns-clause-northings
returns-clause-northings g c = search rules
