use Rattle.std.proofs.Common.{◌≡◌, ◌+◌, ◌*◌, count_by, ap, ◌∙◌, arith}
use lib.Lanes.{chunk}
use Rattle.range_plane.specs.ConvexCover.{is_covered}
use Rattle.range_lanes.proofs.Counts.{count_more}
use Rattle.range_lanes.proofs.inside.count_by_edges.Goals as goal

pub loop-group-preserved : goal.loop-group-preserved
loop-group-preserved g c =
    let ps = c.args.cols.now.points in
    let test = is_covered c.args.corners.now in
    let at = 8 * c.loop-group.group in
    let next : 8 * (c.loop-group.group + 1) ≡ at + 8 = omega arith in
    let counted : c.count_in_box-count.result ≡ count_by test (chunk at 8 ps) = c.count_in_box-count.ensures ∙ ap (λ L. count_by (is_covered L) c.load.result) c.of-edges.ensures
    ∙ ap (count_by test) c.load.ensures in
    rw (c.loop-group.invariant, counted, next) (count_more test at ps)
