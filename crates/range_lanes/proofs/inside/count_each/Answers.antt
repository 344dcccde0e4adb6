use Rattle.std.proofs.Common.{◌≡◌, ◌+◌, ◌<◌, length, ap, ◌∙◌, arith}
use Rattle.range_plane.specs.ConvexCover.{is_covered}
use Rattle.range_lanes.proofs.Counts.{bit_of, count_one_more, one_or_none}
use Rattle.range_lanes.proofs.inside.count_each.Goals as goal

pub loop-index-preserved : goal.loop-index-preserved
loop-index-preserved g c =
    let ps = c.args.cols.now.points in
    let test = is_covered c.args.polygon.now in
    let at = c.args.at in
    let i = c.loop-index.index in
    let index : at + i < length ps = omega (arith, c.loop-index-test.true, c.requires.room) in
    let bit : c.from-count.result ≡ one_or_none (test c.at-p.result) = c.from-count.ensures ∙ bit_of c.is_known_or_covered.result
    ∙ ap one_or_none c.is_known_or_covered.ensures in
    rw (c.loop-index.invariant, bit) (count_one_more test ps at i c.at-p.result index c.at-p.ensures)
