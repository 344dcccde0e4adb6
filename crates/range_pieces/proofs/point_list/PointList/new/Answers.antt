use Rattle.std.proofs.Common.{rules}
use Rattle.range_pieces.proofs.point_list.PointList.new.Goals as goal

pub returns : goal.returns
returns g c = search rules
