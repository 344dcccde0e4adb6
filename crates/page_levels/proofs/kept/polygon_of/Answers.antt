use Rattle.std.proofs.Common.{◌≡◌, ◌∙◌, ◌+◌, ◌++◌, ◌∷◌, [], List, reverse, take, arith, sym, ap, subst}
use Rattle.std.proofs.lemmas.List.{reverse-append, take_all, take_more}
use Rattle.std.proofs.lemmas.List.Sorted.{IsPermutation-reverse, IsPermutation-sym}
use Rattle.std.proofs.lemmas.Result.{IfOk-weaker}
use Rattle.range_plane.specs.Plane.{Position}
use Rattle.range_plane.specs.Polygon.{IsPolygon}
use Rattle.range_plane.proofs.ForCallers.{corners_cover_the_set, covering_members_are_corners, larger_sets_cover_more, one_covers_itself}
use Rattle.range_stats.proofs.RankedMembers.{polygon_of_permutation}
use Rattle.page_levels.proofs.kept.polygon_of.Goals as goal

pub loop-point-preserved : goal.loop-point-preserved
loop-point-preserved c =
    let points = c.args.points.now in
    let i = c.loop-point.point-index in
    let p = c.point-item.result in
    let more : take (i + 1) points ≡ take i points ++ p ∷ [] =
    take_more points i p c.loop-point-test.true ∙ ap (λ x. take i points ++ x ∷ []) (sym c.point-item.is) in
    let turned : reverse (take (i + 1) points) ≡ p ∷ reverse (take i points) = ap reverse more ∙ reverse-append (take i points) (p ∷ []) in
    record {
      polygon = subst (λ (l : List Position). IsPolygon l c.insert.new.self.corners) (sym turned)
          (c.insert.ensures.set (reverse (take i points)) c.loop-point.invariant.polygon);
      counted = omega (arith, c.insert.ensures.inserted, c.insert.ensures.skipped, c.loop-point.invariant.counted);
      room = omega (arith, c.insert.ensures.spare, c.loop-point.invariant.room);
    }

pub returns : goal.returns
returns c =
    let points = c.args.points.now in
    let corners = c.loop-point.hull.corners in
    let all : take c.loop-point.point-index points ≡ points = take_all c.loop-point.point-index points (omega (arith, c.loop-point-test.false)) in
    let whole : IsPolygon points corners =
    polygon_of_permutation larger_sets_cover_more one_covers_itself corners_cover_the_set covering_members_are_corners (reverse points) points corners
    (IsPermutation-sym points (reverse points) (IsPermutation-reverse points))
    (subst (λ (l : List Position). IsPolygon (reverse l) corners) all c.loop-point.invariant.polygon) in
    IfOk-weaker c.polygon.result (λ polygon. polygon ≡ corners) (IsPolygon points) (λ polygon is. subst (IsPolygon points) (sym is) whole)
    c.polygon.ensures
