use Rattle.std.proofs.Common.{◌∷◌, ◌+◌, ap, subst, sym}
use Rattle.range_plane.specs.Polygon.{IsPolygon}
use Rattle.range_plane.proofs.ForCallers.{corners_cover_the_set, covered_is_decided, covered_points_change_nothing}
use Rattle.range_hull.specs.Hull.{Hull}
use Rattle.range_hull.proofs.hull.OnlineHull.skip.Goals as goal

pub returns-clause-counted : goal.returns-clause-counted
returns-clause-counted g c = ap (λ (h : Hull). record h { skipped = h.skipped + 1 }) c.self.view_is

pub returns-clause-set : goal.returns-clause-set
returns-clause-set g c = λ S polygon.
    let L = c.args.self.now.corners in
    let covered = (corners_cover_the_set S L polygon c.args.p).0 ((covered_is_decided L c.args.p).0 c.requires.covered) in
    subst (λ (h : Hull). IsPolygon (c.args.p ∷ S) h.corners) (sym c.self.view_is) ((covered_points_change_nothing S L c.args.p covered).0 polygon)
