use Rattle.range_pieces.proofs.point_list.PointList.piece.Goals as goal

pub returns-clause-points : goal.returns-clause-points
returns-clause-points g c = cc
