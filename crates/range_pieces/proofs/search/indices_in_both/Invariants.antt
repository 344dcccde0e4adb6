use Rattle.std.proofs.Common.{◌+◌, length}
use Rattle.range_plane.specs.Edges.{at}
use Rattle.range_pieces.specs.RisingPoints.{IsBetween}
use Rattle.range_pieces.proofs.search.indices_in_both.Given as goal

abbrev pub invariant-loop-first_size : goal.invariant-loop-first_size
invariant-loop-first_size l = IsBetween (at l.first) (length l.first) l.p l.in_first l.first_size
    × IsBetween (at l.second) (length l.second) l.p l.in_second l.second_size

abbrev pub decreases-loop-first_size : goal.decreases-loop-first_size
decreases-loop-first_size l = l.first_size + l.second_size
