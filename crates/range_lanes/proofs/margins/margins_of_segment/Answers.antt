use Rattle.range_lanes.proofs.Turns.{segment_signs}
use Rattle.range_lanes.proofs.margins.margins_of_segment.Goals as goal

pub returns : goal.returns
returns c =
    segment_signs c.args.a c.args.b c.args.group.now c.turns-turned.result c.scalar_products-products.result c.negated.result c.negated-2.result
    c.negative_in_either.result c.negative_in_either-2.result c.turns-turned.ensures.value c.scalar_products-products.ensures.value c.negated.ensures
    c.negated-2.ensures c.negative_in_either.ensures c.negative_in_either-2.ensures
