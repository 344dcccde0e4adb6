use Rattle.std.proofs.Common.{◌≡◌, ◌∙◌, List, ◌++◌, ap, subst, sym, reverse}
use Rattle.range_plane.specs.Plane.{Position}
use Rattle.range_plane.specs.Polygon.{IsPolygon}
use Rattle.range_plane.proofs.ForCallers.{covering_is_reaching, covering_members_are_corners}
use Rattle.range_pieces.specs.Pieces.{all_points}
use Rattle.range_hull.specs.Hull.{corners_of, inner_corners}
use Rattle.range_hull.proofs.Hulls.{own_polygon}
use Rattle.range_hull.proofs.hull.OnlineHull.corners.Goals as goal

pub returns-clause-polygon : goal.returns-clause-polygon
returns-clause-polygon g c =
    let U = all_points c.self.inside.upper.pieces in
    let all : c.push_back.new.corners.items ≡ corners_of (all_points c.self.inside.lower.pieces) U =
    c.in_ok-push_back.ensures ∙ ap (λ (L : List Position). L ++ reverse (inner_corners U)) c.in_ok-corners.ensures in
    subst (λ (M : List Position). IsPolygon M M) (sym all) (own_polygon covering_is_reaching covering_members_are_corners
    c.self.invariant.chains)
