use Rattle.std.proofs.Common.{◌≡◌, ◌+◌, ◌*◌, take, map, ap, ◌∙◌, arith}
use lib.Lanes.{chunk}
use Rattle.std.proofs.Math.Seq.{take-add}
use Rattle.std.proofs.lemmas.List.{map-append}
use Rattle.range_plane.specs.ConvexCover.{is_covered}
use Rattle.range_lanes.proofs.inside.flag_by_edges.Goals as goal

pub loop-group-preserved : goal.loop-group-preserved
loop-group-preserved g c =
    let ps = c.args.cols.now.points in
    let test = is_covered c.args.corners.now in
    let at = 8 * c.loop-group.group in
    let next : 8 * (c.loop-group.group + 1) ≡ at + 8 = omega arith in
    let flagged = c.margins.ensures ∙ ap (λ L. map (is_covered L) c.load.result) c.of-edges.ensures ∙ ap (map test) c.load.ensures in
    rw (next, c.flag_not_negative.ensures, c.loop-group.invariant, flagged, take-add at 8 ps, map-append test (take at ps) (chunk at 8 ps))
