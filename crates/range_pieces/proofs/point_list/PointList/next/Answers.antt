use Rattle.std.proofs.Common.{arith}
use Rattle.std.proofs.lemmas.Grind.{common_steps}
use Rattle.range_pieces.proofs.point_list.PointList.next.Goals as goal

pub returns-then-c-last-clause-stands : goal.returns-then-c-last-clause-stands
returns-then-c-last-clause-stands g c = grind (arith, common_steps)
