use Rattle.std.proofs.Common.{◌≡◌, ◌∙◌, ap, pos, ◌*ℤ◌, ◌+ℤ◌, arith}
use Rattle.std.proofs.lemmas.Int.{ints}
use Rattle.range_plane.specs.Order.{rank, rank_base}
use Rattle.range_plane.specs.Plane.{Position}
use Rattle.range_plane.proofs.order.rank.Goals as goal

pub returns-clause-value : goal.returns-clause-value
unfolding rank
returns-clause-value c =
    let i = c.p.invariant in
    (let e : _ ≡ c.p.inside.e *ℤ pos rank_base +ℤ c.p.inside.n = omega (arith, ints, i.0, i.1) in e) ∙ ap (λ (x : Position). rank x) c.p.view_is
