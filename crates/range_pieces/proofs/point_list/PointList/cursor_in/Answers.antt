use Rattle.std.proofs.Common.{rules}
use Rattle.range_pieces.proofs.point_list.PointList.cursor_in.Goals as goal

pub returns-then-within-len_of-clause-stands : goal.returns-then-within-len_of-clause-stands
returns-then-within-len_of-clause-stands g c = search rules
