use Rattle.std.proofs.Common.{arith}
use Rattle.std.proofs.lemmas.Grind.{common_steps}
use Rattle.range_pieces.proofs.point_list.PointList.end.Goals as goal

pub returns-clause-index : goal.returns-clause-index
returns-clause-index g c = grind (arith, common_steps)
