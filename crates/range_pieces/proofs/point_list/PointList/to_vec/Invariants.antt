use Rattle.std.proofs.Common.{◌≡◌, take}
use Rattle.range_pieces.specs.Pieces.{all_points}
use Rattle.range_pieces.proofs.point_list.PointList.to_vec.Given as goal

abbrev pub invariant-loop-i : goal.invariant-loop-i
invariant-loop-i g l = l.points.items ≡ all_points (take l.i l.self-inside.shelf.pieces)
