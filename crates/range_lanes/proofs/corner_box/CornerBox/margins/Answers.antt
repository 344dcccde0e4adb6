use Rattle.std.proofs.Common.{◌-ℤ◌, map, ap, ◌∙◌, lit<}
use Rattle.range_lemmas.proofs.Sizes.{kept}
use Rattle.range_plane.specs.Plane.{Position, coordinate_limit, position}
use Rattle.range_lanes.specs.Lanes.{is_in_box}
use Rattle.range_lanes.proofs.CornerBoxes.{box_signs}
use Rattle.range_lanes.proofs.corner_box.CornerBox.margins.Goals as goal

pub returns : goal.returns
returns c =
    let low = c.low.inside in
    let high = c.high.inside in
    let vs = c.args.group.now in
    box_signs (position low.e low.n) (position high.e high.n) vs c.east_of-from_west.result c.north_of-from_south.result c.east_of-past_east.result
    c.north_of-past_north.result c.negated.result c.negated-2.result c.negative_in_either.result c.negative_in_either-2.result c.negative_in_either-3.result
    (c.east_of-from_west.ensures.value ∙ ap (λ x. map (λ (p : Position). p.e -ℤ x) vs) (kept coordinate_limit (lit< tt) low.e c.low.invariant.0))
    (c.north_of-from_south.ensures.value ∙ ap (λ x. map (λ (p : Position). p.n -ℤ x) vs) (kept coordinate_limit (lit< tt) low.n c.low.invariant.1))
    (c.east_of-past_east.ensures.value ∙ ap (λ x. map (λ (p : Position). p.e -ℤ x) vs) (kept coordinate_limit (lit< tt) high.e c.high.invariant.0))
    (c.north_of-past_north.ensures.value ∙ ap (λ x. map (λ (p : Position). p.n -ℤ x) vs) (kept coordinate_limit (lit< tt) high.n c.high.invariant.1))
    c.negated.ensures c.negated-2.ensures c.negative_in_either.ensures c.negative_in_either-2.ensures c.negative_in_either-3.ensures
    ∙ ap (λ p. map (is_in_box p (position high.e high.n)) vs) c.low.view_is ∙ ap (λ p. map (is_in_box c.args.self.now.low p) vs) c.high.view_is
