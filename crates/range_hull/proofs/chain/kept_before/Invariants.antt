use Rattle.std.proofs.Common.{◌+◌, ◌-◌, ◌<◌, ◌≤◌, pos, ◌≤ℤ◌, ◌≡◌, ◌-ℤ◌}
use Rattle.range_plane.specs.Edges.{at}
use Rattle.range_pieces.specs.Pieces.{all_points}
use Rattle.range_pieces.specs.PointList.{Stands, index}
use Rattle.range_hull.specs.Area.{sweep_before}
use Rattle.range_hull.specs.Chain.{bend}
use Rattle.range_hull.proofs.chain.kept_before.Given as goal

abbrev pub invariant-loop-side : goal.invariant-loop-side
invariant-loop-side g l =
    let L = all_points l.chain.pieces in
    let i = index l.chain.pieces l.fn.c in
    let k = index l.chain.pieces l.kept in
    Stands l.chain.pieces l.kept
    × (k ≤ i)
    × (0 < i → 0 < k)
    × (k < i → bend l.side (at L (k - 1)) (at L k) l.p ≤ℤ pos 0)
    × (l.tally.turns + k ≤ l.initial.tally.turns + i)
    × (0 < i → pos l.tally.area -ℤ sweep_before l.side L l.p k ≡ pos l.initial.tally.area -ℤ sweep_before l.side L l.p i)
    × (i ≡ 0 → l.tally.area ≡ l.initial.tally.area)
    × (l.initial.tally.turns ≤ l.tally.turns)

abbrev pub decreases-loop-side : goal.decreases-loop-side
decreases-loop-side g l = index l.chain.pieces l.kept
