use Rattle.std.proofs.Common.{◌≡◌, ◌∙◌, add-one, ap, arith, get_or, length, map, pos}
use Rattle.range_plane.specs.ConvexCover.{is_covered}
use Rattle.range_plane.specs.Edges.{at}
use Rattle.range_plane.specs.Plane.{turn}
use Rattle.range_lanes.specs.EdgeLines.{corner_before, side}
use Rattle.range_lanes.specs.declared.edge_lines.EdgeLine.{EdgeLine}
use Rattle.range_lanes.proofs.LaneEdges.{is_left, is_left_of_first, many_cover}
use Rattle.range_lanes.proofs.Turns.{both_signs, map_same, signs_of_map}
use Rattle.range_lanes.proofs.margins.margins_of_lines.Goals as goal

abbrev no_line : EdgeLine
no_line = record { east = pos 0; north = pos 0; at_origin = pos 0 }

pub loop-i-init : goal.loop-i-init
loop-i-init c =
    let L = c.args.corners.now in
    let vs = c.args.group.now in
    let line = c.requires.lines.each 0 no_line (omega (arith, c.requires.many)) in
    let turned = c.sides-margins.ensures ∙ map_same (side (get_or c.args.lines.now 0 no_line)) (turn (corner_before L 0) (at L 0)) line.sides vs in
    signs_of_map (turn (corner_before L 0) (at L 0)) vs c.sides-margins.result turned

pub loop-i-preserved : goal.loop-i-preserved
loop-i-preserved c =
    let L = c.args.corners.now in
    let vs = c.args.group.now in
    let i = c.loop-i.i in
    let line = c.requires.lines.each i no_line c.loop-i-test.true in
    let turned = c.sides.ensures ∙ map_same (side (get_or c.args.lines.now i no_line)) (turn (corner_before L i) (at L i)) line.sides vs in
    rw add-one (both_signs (is_left_of_first L i) (is_left (corner_before L i) (at L i)) vs c.loop-i.margins c.sides.result
    c.negative_in_either-margins.result c.loop-i.invariant (signs_of_map (turn (corner_before L i) (at L i)) vs c.sides.result turned)
    c.negative_in_either-margins.ensures)

pub returns : goal.returns
returns c =
    let L = c.args.corners.now in
    let vs = c.args.group.now in
    let ended : c.loop-i.i ≡ length L = omega arith in
    c.loop-i.invariant ∙ ap (λ n. map (is_left_of_first L n) vs) ended
    ∙ map_same (is_left_of_first L (length L)) (is_covered L)
    (λ q. many_cover L q c.requires.polygon c.requires.many) vs
