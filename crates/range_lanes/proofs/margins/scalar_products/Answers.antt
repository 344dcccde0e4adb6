use Rattle.std.proofs.Common.{◌-ℤ◌, map, ap, ◌∙◌, lit<}
use Rattle.range_plane.specs.ConvexCover.{scalar_product}
use Rattle.range_plane.specs.Plane.{coordinate_limit, Position, position}
use Rattle.range_lemmas.proofs.Sizes.{kept}
use Rattle.range_lanes.proofs.Turns.{scalar_products_value, product_to_turn, sum_small, times_small}
use Rattle.range_lanes.proofs.margins.scalar_products.Goals as goal

pub plus-requires-clause-left : goal.plus-requires-clause-left
plus-requires-clause-left c =
    product_to_turn c.times-along_e.result (times_small c.east_of.result c.east_of-2.result c.times-along_e.result c.east_of.ensures.small
    c.east_of-2.ensures.small c.times-along_e.ensures)

pub plus-requires-clause-right : goal.plus-requires-clause-right
plus-requires-clause-right c =
    product_to_turn c.times-along_n.result (times_small c.north_of.result c.north_of-2.result c.times-along_n.result c.north_of.ensures.small
    c.north_of-2.ensures.small c.times-along_n.ensures)

pub returns-clause-value : goal.returns-clause-value
returns-clause-value c =
    let a = c.a.inside in
    let b = c.b.inside in
    let vs = c.args.group.now in
    scalar_products_value (position a.e a.n) (position b.e b.n) vs c.east_of.result c.east_of-2.result c.north_of.result c.north_of-2.result
    c.times-along_e.result c.times-along_n.result c.plus.result
    (c.east_of.ensures.value ∙ ap (λ x. map (λ (p : Position). p.e -ℤ x) vs) (kept coordinate_limit (lit< tt) a.e c.a.invariant.0))
    (c.east_of-2.ensures.value ∙ ap (λ x. map (λ (p : Position). p.e -ℤ x) vs) (kept coordinate_limit (lit< tt) b.e c.b.invariant.0))
    (c.north_of.ensures.value ∙ ap (λ x. map (λ (p : Position). p.n -ℤ x) vs) (kept coordinate_limit (lit< tt) a.n c.a.invariant.1))
    (c.north_of-2.ensures.value ∙ ap (λ x. map (λ (p : Position). p.n -ℤ x) vs) (kept coordinate_limit (lit< tt) b.n c.b.invariant.1))
    c.times-along_e.ensures c.times-along_n.ensures c.plus.ensures
    ∙ ap (λ p. map (λ q. scalar_product q p (position b.e b.n)) vs) c.a.view_is ∙ ap (λ p. map (λ q. scalar_product q c.args.a p) vs) c.b.view_is

pub returns-clause-small : goal.returns-clause-small
returns-clause-small c =
    sum_small c.times-along_e.result c.times-along_n.result c.plus.result
    (times_small c.east_of.result c.east_of-2.result c.times-along_e.result c.east_of.ensures.small c.east_of-2.ensures.small c.times-along_e.ensures)
    (times_small c.north_of.result c.north_of-2.result c.times-along_n.result c.north_of.ensures.small c.north_of-2.ensures.small c.times-along_n.ensures)
    c.plus.ensures
