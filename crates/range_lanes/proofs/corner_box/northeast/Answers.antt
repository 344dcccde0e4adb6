use Rattle.range_lanes.proofs.CornerBoxes.{greater_kept}
use Rattle.range_lanes.proofs.corner_box.northeast.Goals as goal

pub invariant_of-result : goal.invariant_of-result
invariant_of-result c =
    let easting = greater_kept c.a.inside.e c.b.inside.e c.max.result c.a.invariant.0 c.b.invariant.0 c.max.ensures.value in
    let northing = greater_kept c.a.inside.n c.b.inside.n c.max-2.result c.a.invariant.1 c.b.invariant.1 c.max-2.ensures.value in
    (easting.1, northing.1)
