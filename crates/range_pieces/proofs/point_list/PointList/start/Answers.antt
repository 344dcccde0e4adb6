use Rattle.std.proofs.Common.{refl}
use Rattle.range_pieces.proofs.point_list.PointList.start.Goals as goal

pub returns-clause-index : goal.returns-clause-index
returns-clause-index g c = refl
