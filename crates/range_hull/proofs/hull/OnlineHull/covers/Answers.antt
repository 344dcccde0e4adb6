use Rattle.std.proofs.Common.{◌≡◌, ◌∙◌, subst, false}
use Rattle.range_plane.specs.ConvexCover.{is_covered}
use Rattle.range_plane.proofs.ForCallers.{covered_is_decided, covering_is_reaching}
use Rattle.range_hull.specs.Hull.{Hull}
use Rattle.range_hull.proofs.Beyond.{covered_by_upper, covered_none}
use Rattle.range_hull.proofs.hull.OnlineHull.covers.Goals as goal

pub returns-then-lies_within : goal.returns-then-lies_within
returns-then-lies_within g c =
    let upper = c.lies_within-then-lies_within in
    subst (λ (h : Hull). upper.result ≡ is_covered h.corners c.args.p) c.self.view_is
    (covered_by_upper covering_is_reaching covered_is_decided c.self.invariant.chains c.args.p c.if-lies_within.ensures.within
    upper.result upper.ensures.within upper.ensures.beyond)

pub returns-else-lies_within : goal.returns-else-lies_within
returns-else-lies_within g c =
    c.if-lies_within.false
    ∙ subst (λ (h : Hull). false ≡ is_covered h.corners c.args.p) c.self.view_is
    (covered_none covering_is_reaching covered_is_decided c.self.invariant.chains c.args.p c.if-lies_within.ensures.beyond)
