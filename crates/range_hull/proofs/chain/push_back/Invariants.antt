use Rattle.std.proofs.Common.{◌≡◌, ◌+◌, ◌-◌, ◌++◌, length, take, reverse}
use Rattle.range_pieces.specs.Pieces.{all_points}
use Rattle.range_pieces.specs.PointList.{Stands, index}
use Rattle.range_hull.specs.Hull.{inner_corners}
use Rattle.range_hull.proofs.chain.push_back.Given as goal

abbrev pub invariant-loop : goal.invariant-loop
invariant-loop g l =
    let U = all_points l.chain.pieces in
    Stands l.chain.pieces l.next
    × (index l.chain.pieces l.next + l.counter ≡ length U + 1)
    × (l.corners.items ≡ l.initial.corners.items ++ take (l.counter - 2) (reverse (inner_corners U)))
