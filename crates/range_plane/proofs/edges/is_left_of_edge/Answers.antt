use Rattle.std.proofs.Common.{◌∙◌, ap, arith}
use Rattle.std.proofs.lemmas.Int.{ints}
use Rattle.std.proofs.lemmas.List.{get_or_read}
use Rattle.range_plane.specs.Edges.{at}
use Rattle.range_plane.specs.Plane.{Position, origin, turn}
use Rattle.range_plane.proofs.edges.is_left_of_edge.Goals as goal

pub returns : goal.returns
returns c =
    let L = c.args.corners.now in
    let e = get_or_read L c.args.index c.index-corners-index.result c.requires c.index-corners-index.is origin in
    let t = c.turn.ensures.value ∙ ap (λ (x : Position). turn x c.next.result c.args.q) e
    ∙ ap (λ (x : Position). turn (at L c.args.index) x c.args.q) c.next.ensures in
    (λ h. grind (arith, ints), λ h. grind (arith, ints))
