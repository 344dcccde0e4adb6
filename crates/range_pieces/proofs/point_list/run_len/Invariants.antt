use Rattle.std.proofs.Common.{◌≡◌, ◌+◌}
use Rattle.range_pieces.specs.Pieces.{offset}
use Rattle.range_pieces.specs.PointList.{index}
use Rattle.range_pieces.proofs.point_list.run_len.Given as goal

abbrev pub invariant-loop-i : goal.invariant-loop-i
invariant-loop-i g l = index l.shelf.pieces l.fn.from + l.passed ≡ offset l.shelf.pieces l.i
