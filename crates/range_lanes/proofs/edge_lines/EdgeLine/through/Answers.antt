use Rattle.std.proofs.Common.{◌≡◌, subst, sym, ap, ◌∙◌, lit<, to_z, of_z, w64}
use Rattle.range_lemmas.proofs.Sizes.{difference_kept}
use Rattle.range_plane.specs.Plane.{coordinate_limit, turn_limit, origin, position, turn}
use Rattle.range_lanes.specs.Lanes.{IsBounded}
use Rattle.range_lanes.proofs.EdgeSides.{line_through, size_kept}
use Rattle.range_lanes.proofs.edge_lines.EdgeLine.through.Goals as goal

pub returns : goal.returns
returns c =
    let a = c.a.inside in
    let b = c.b.inside in
    let east = difference_kept coordinate_limit (lit< tt) b.e a.e c.b.invariant.0 c.a.invariant.0 in
    let north = difference_kept coordinate_limit (lit< tt) b.n a.n c.b.invariant.1 c.a.invariant.1 in
    let stays = size_kept turn_limit (lit< tt) c.turn.result c.turn.ensures.bound in
    let value : to_z w64 (of_z w64 c.turn.result) ≡ turn (position a.e a.n) (position b.e b.n) origin = stays ∙ c.turn.ensures.value
    ∙ ap (λ p. turn p c.args.b origin) (sym c.a.view_is) ∙ ap (λ p. turn (position a.e a.n) p origin) (sym c.b.view_is) in
    let bounded = subst (IsBounded turn_limit) (sym stays) c.turn.ensures.bound in
    rw (← c.a.view_is, ← c.b.view_is)
    (line_through (position a.e a.n) (position b.e b.n) _ c.a.invariant c.b.invariant east north value bounded)
