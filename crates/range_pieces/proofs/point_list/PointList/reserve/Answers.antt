use Rattle.std.proofs.Common.{rules}
use Rattle.range_pieces.proofs.point_list.PointList.reserve.Goals as goal

pub returns-clause-room : goal.returns-clause-room
returns-clause-room g c = search rules

pub invariant_of-self : goal.invariant_of-self
invariant_of-self g c = search rules
