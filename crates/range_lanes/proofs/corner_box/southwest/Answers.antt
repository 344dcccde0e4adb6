use Rattle.range_lanes.proofs.CornerBoxes.{smaller_kept}
use Rattle.range_lanes.proofs.corner_box.southwest.Goals as goal

pub invariant_of-result : goal.invariant_of-result
invariant_of-result c =
    let easting = smaller_kept c.a.inside.e c.b.inside.e c.min.result c.a.invariant.0 c.b.invariant.0 c.min.ensures.value in
    let northing = smaller_kept c.a.inside.n c.b.inside.n c.min-2.result c.a.invariant.1 c.b.invariant.1 c.min-2.ensures.value in
    (easting.1, northing.1)
