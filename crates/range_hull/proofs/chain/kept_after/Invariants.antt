use Rattle.std.proofs.Common.{◌+◌, ◌-◌, ◌<◌, ◌≤◌, length, pos, ◌≤ℤ◌, ◌≡◌, ◌-ℤ◌}
use Rattle.range_plane.specs.Edges.{at}
use Rattle.range_pieces.specs.Pieces.{all_points}
use Rattle.range_pieces.specs.PointList.{Stands, index}
use Rattle.range_hull.specs.Area.{sweep_after}
use Rattle.range_hull.specs.Chain.{bend}
use Rattle.range_hull.proofs.chain.kept_after.Given as goal

abbrev pub invariant-loop-side : goal.invariant-loop-side
invariant-loop-side g l =
    let L = all_points l.chain.pieces in
    let i = index l.chain.pieces l.fn.c in
    let k = index l.chain.pieces l.kept in
    Stands l.chain.pieces l.kept
    × (i ≤ k)
    × (i < length L → k < length L)
    × (i < k → bend l.side l.p (at L (k - 1)) (at L k) ≤ℤ pos 0)
    × (l.tally.turns + i ≤ l.initial.tally.turns + k)
    × (i < length L → pos l.tally.area -ℤ sweep_after l.side L l.p k ≡ pos l.initial.tally.area -ℤ sweep_after l.side L l.p i)
    × (i ≡ length L → l.tally.area ≡ l.initial.tally.area)
    × (l.initial.tally.turns ≤ l.tally.turns)

abbrev pub decreases-loop-side : goal.decreases-loop-side
decreases-loop-side g l = length (all_points l.chain.pieces) - index l.chain.pieces l.kept
