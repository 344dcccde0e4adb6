use Rattle.std.proofs.Common.{◌+ℤ◌, ◌*ℤ◌, map, ap, ◌∙◌, lit<}
use Rattle.range_plane.specs.Plane.{coordinate_limit, turn_limit}
use Rattle.range_lanes.proofs.Turns.{difference_small, product_to_turn, scaled_small}
use Rattle.range_lanes.proofs.EdgeSides.{sides_value, size_kept}
use Rattle.range_lanes.proofs.edge_lines.EdgeLine.sides.Goals as goal

pub minus-requires-clause-left : goal.minus-requires-clause-left
minus-requires-clause-left c =
    let line = c.args.self in
    let east = size_kept coordinate_limit (lit< tt) line.east c.requires.east in
    product_to_turn c.scaled-by_north.result (scaled_small line.east c.north_of.result c.scaled-by_north.result c.requires.east c.north_of.ensures.small
    (c.scaled-by_north.ensures ∙ ap (λ k. map (λ x. k *ℤ x) c.north_of.result) east))

pub minus-requires-clause-right : goal.minus-requires-clause-right
minus-requires-clause-right c =
    let line = c.args.self in
    let north = size_kept coordinate_limit (lit< tt) line.north c.requires.north in
    product_to_turn c.scaled-by_east.result (scaled_small line.north c.east_of.result c.scaled-by_east.result c.requires.north c.east_of.ensures.small
    (c.scaled-by_east.ensures ∙ ap (λ k. map (λ x. k *ℤ x) c.east_of.result) north))

pub raised-requires-clause-small : goal.raised-requires-clause-small
raised-requires-clause-small c =
    let line = c.args.self in
    let east = size_kept coordinate_limit (lit< tt) line.east c.requires.east in
    let north = size_kept coordinate_limit (lit< tt) line.north c.requires.north in
    difference_small c.scaled-by_north.result c.scaled-by_east.result c.minus.result
    (scaled_small line.east c.north_of.result c.scaled-by_north.result c.requires.east c.north_of.ensures.small
    (c.scaled-by_north.ensures ∙ ap (λ k. map (λ x. k *ℤ x) c.north_of.result) east))
    (scaled_small line.north c.east_of.result c.scaled-by_east.result c.requires.north c.east_of.ensures.small
    (c.scaled-by_east.ensures ∙ ap (λ k. map (λ x. k *ℤ x) c.east_of.result) north)) c.minus.ensures

pub returns : goal.returns
returns c =
    let line = c.args.self in
    let east = size_kept coordinate_limit (lit< tt) line.east c.requires.east in
    let north = size_kept coordinate_limit (lit< tt) line.north c.requires.north in
    let at_origin = size_kept turn_limit (lit< tt) line.at_origin c.requires.at_origin in
    sides_value line c.args.group.now c.north_of.result c.east_of.result c.scaled-by_north.result c.scaled-by_east.result c.minus.result c.raised.result
    c.north_of.ensures.value c.east_of.ensures.value
    (c.scaled-by_north.ensures ∙ ap (λ k. map (λ x. k *ℤ x) c.north_of.result) east)
    (c.scaled-by_east.ensures ∙ ap (λ k. map (λ x. k *ℤ x) c.east_of.result) north) c.minus.ensures
    (c.raised.ensures ∙ ap (λ k. map (λ x. k +ℤ x) c.minus.result) at_origin)
