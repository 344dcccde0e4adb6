use Rattle.std.proofs.Common.{rules}
use Rattle.range_hull.proofs.hull.OnlineHull.reserve.Goals as goal

pub returns-in_err-reserve-2-clause-succeeds : goal.returns-in_err-reserve-2-clause-succeeds
returns-in_err-reserve-2-clause-succeeds g c = search rules

pub returns-clause-room : goal.returns-clause-room
returns-clause-room g c = search rules

pub returns-clause-spare : goal.returns-clause-spare
returns-clause-spare g c = search rules
