use Rattle.std.proofs.Common.{◌≡◌, ◌∙◌, ◌+◌, ◌++◌, ◌∷◌, [], List, take, sym, ap, subst}
use Rattle.std.proofs.lemmas.List.{take_more}
use Rattle.range_plane.specs.Plane.{Position}
use Rattle.page_influence.specs.Layers.{AreCornerFixes}
use Rattle.page_influence.proofs.Steps.{corner_more}
use Rattle.page_influence.proofs.corner_fixes.corner_fixes.Goals as goal

pub loop-corner-preserved : goal.loop-corner-preserved
loop-corner-preserved c =
    let points = c.args.points.now.points in
    let corners = c.args.corners.now in
    let i = c.loop-corner.corner-index in
    let corner = c.corner-item.result in
    let fixes = c.loop-corner.fixes.items in
    let more : take (i + 1) corners ≡ take i corners ++ corner ∷ [] =
    take_more corners i corner c.loop-corner-test.true ∙ ap (λ x. take i corners ++ x ∷ []) (sym c.corner-item.is) in
    subst (AreCornerFixes points (take (i + 1) corners)) (sym c.in_ok-push.ensures.items)
    (subst (λ (l : List Position). AreCornerFixes points l (fixes ++ c.first_at.result ∷ [])) (sym more)
    (corner_more points (take i corners) corner fixes c.first_at.result c.loop-corner.invariant c.first_at.ensures.within c.first_at.ensures.there))
