use Rattle.std.proofs.Common.{sym, ap, ◌∙◌, pos}
use Rattle.range_plane.specs.Polygon.{area2}
use Rattle.range_hull.specs.Hull.{Hull}
use Rattle.range_hull.proofs.Area.{hull_area}
use Rattle.range_hull.proofs.hull.OnlineHull.area2.Goals as goal

pub returns : goal.returns
returns g c =
    ap pos c.area.ensures ∙ c.self.invariant.area ∙ sym (hull_area c.self.invariant.chains) ∙ ap (λ (h : Hull). area2 h.corners) c.self.view_is
