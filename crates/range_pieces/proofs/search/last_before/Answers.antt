use Rattle.std.proofs.Common.{ℕ, ◌+◌, ◌*◌, ◌/◌, ◌<◌, arith}
use Rattle.range_plane.specs.Plane.{Position}
use Rattle.range_pieces.proofs.PieceIndices.{counted, halved, quartered}
use Rattle.range_pieces.proofs.search.last_before.Goals as goal

pub loop-size-preserved : goal.loop-size-preserved
loop-size-preserved g c =
    let point : ℕ → Position = g.L.Rising.point_at c.args.list.now in
    let p = c.args.p in
    let low = c.loop-size.low in
    let q : ℕ = c.loop-size.size / 4 in
    let many : 32 < c.loop-size.size = c.loop-size-test.true in
    let one = c.count_before-first in
    let two = c.count_before-second in
    let three = c.count_before-third in
    quartered point c.args.count p low c.loop-size.size q one.result two.result three.result c.requires.rising c.loop-size.invariant (omega (arith, many))
    (omega arith)
    (counted point p c.point.result (low + q) q one.result c.point.ensures one.ensures)
    (counted point p c.point-in-loop-size.result (low + 2 * q) q two.result c.point-in-loop-size.ensures two.ensures)
    (counted point p c.point-in-loop-size-2.result (low + 3 * q) q three.result c.point-in-loop-size-2.ensures three.ensures)

pub loop-size-2-preserved : goal.loop-size-2-preserved
loop-size-2-preserved g c =
    let point : ℕ → Position = g.L.Rising.point_at c.args.list.now in
    let low = c.loop-size-2.low in
    let step = c.count_before-low in
    let half : ℕ = c.loop-size-2.size / 2 in
    let many : 1 < c.loop-size-2.size = c.loop-size-2-test.true in
    halved point c.args.count c.args.p low c.loop-size-2.size half step.result c.requires.rising c.loop-size-2.invariant (omega (arith, many)) (omega arith)
    (counted point c.args.p c.point-in-loop-size-2-2.result (low + half) half step.result c.point-in-loop-size-2-2.ensures step.ensures)
