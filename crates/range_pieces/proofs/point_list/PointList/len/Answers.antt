use Rattle.range_pieces.proofs.point_list.PointList.len.Goals as goal

pub returns : goal.returns
returns g c = cc
