use Rattle.range_pieces.proofs.point_list.PointList.piece_count.Goals as goal

pub returns : goal.returns
returns g c = cc
