use Rattle.range_pieces.specs.RisingPoints.{IsBetween}
use Rattle.range_pieces.proofs.search.last_before.Given as goal

abbrev pub invariant-loop-size : goal.invariant-loop-size
invariant-loop-size g l = IsBetween (g.L.Rising.point_at l.list) l.fn.count l.p l.low l.size

abbrev pub decreases-loop-size : goal.decreases-loop-size
decreases-loop-size g l = l.size

abbrev pub invariant-loop-size-2 : goal.invariant-loop-size-2
invariant-loop-size-2 g l = IsBetween (g.L.Rising.point_at l.list) l.fn.count l.p l.low l.size

abbrev pub decreases-loop-size-2 : goal.decreases-loop-size-2
decreases-loop-size-2 g l = l.size
