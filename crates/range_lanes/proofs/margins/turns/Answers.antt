use Rattle.std.proofs.Common.{◌-ℤ◌, ◌*ℤ◌, map, ap, ◌∙◌, lit<}
use Rattle.range_plane.specs.Plane.{coordinate_limit, Position, position, turn}
use Rattle.range_lemmas.proofs.Sizes.{difference_kept, kept}
use Rattle.range_lanes.proofs.Turns.{difference_small, factor_small, product_to_turn, scaled_small, turns_value}
use Rattle.range_lanes.proofs.margins.turns.Goals as goal

pub minus-requires-clause-left : goal.minus-requires-clause-left
minus-requires-clause-left c =
    let factor = factor_small c.b.inside.e c.a.inside.e c.b.invariant.0 c.a.invariant.0 in
    product_to_turn c.scaled-by_north.result (scaled_small _ c.north_of.result c.scaled-by_north.result factor c.north_of.ensures.small
    c.scaled-by_north.ensures)

pub minus-requires-clause-right : goal.minus-requires-clause-right
minus-requires-clause-right c =
    let factor = factor_small c.b.inside.n c.a.inside.n c.b.invariant.1 c.a.invariant.1 in
    product_to_turn c.scaled-by_east.result (scaled_small _ c.east_of.result c.scaled-by_east.result factor c.east_of.ensures.small c.scaled-by_east.ensures)

pub returns-clause-value : goal.returns-clause-value
returns-clause-value c =
    let a = c.a.inside in
    let b = c.b.inside in
    let vs = c.args.group.now in
    turns_value (position a.e a.n) (position b.e b.n) vs c.north_of.result c.east_of.result c.scaled-by_north.result c.scaled-by_east.result c.minus.result
    (c.north_of.ensures.value ∙ ap (λ x. map (λ (p : Position). p.n -ℤ x) vs) (kept coordinate_limit (lit< tt) a.n c.a.invariant.1))
    (c.east_of.ensures.value ∙ ap (λ x. map (λ (p : Position). p.e -ℤ x) vs) (kept coordinate_limit (lit< tt) a.e c.a.invariant.0))
    (c.scaled-by_north.ensures ∙ ap (λ k. map (λ x. k *ℤ x) c.north_of.result)
    (difference_kept coordinate_limit (lit< tt) b.e a.e c.b.invariant.0 c.a.invariant.0))
    (c.scaled-by_east.ensures ∙ ap (λ k. map (λ x. k *ℤ x) c.east_of.result)
    (difference_kept coordinate_limit (lit< tt) b.n a.n c.b.invariant.1 c.a.invariant.1))
    c.minus.ensures
    ∙ ap (λ p. map (turn p (position b.e b.n)) vs) c.a.view_is ∙ ap (λ p. map (turn c.args.a p) vs) c.b.view_is

pub returns-clause-small : goal.returns-clause-small
returns-clause-small c =
    let by_e = factor_small c.b.inside.e c.a.inside.e c.b.invariant.0 c.a.invariant.0 in
    let by_n = factor_small c.b.inside.n c.a.inside.n c.b.invariant.1 c.a.invariant.1 in
    difference_small c.scaled-by_north.result c.scaled-by_east.result c.minus.result
    (scaled_small _ c.north_of.result c.scaled-by_north.result by_e c.north_of.ensures.small c.scaled-by_north.ensures)
    (scaled_small _ c.east_of.result c.scaled-by_east.result by_n c.east_of.ensures.small c.scaled-by_east.ensures)
    c.minus.ensures
