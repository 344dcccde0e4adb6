use Rattle.std.proofs.Common.{◌≡◌, suc, ◌-◌, ◌<◌, ◌++◌, ◌∷◌, List, false, true, length, drop, get_or, sym, ap, subst, ◌∙◌, arith, tests}
use Rattle.std.proofs.Math.Seq.{drop-cons}
use Rattle.std.proofs.lemmas.Option.{get_or_from_slice_get}
use Rattle.std.proofs.lemmas.List.Elements.{Contains-append_right}
use Rattle.range_plane.specs.Plane.{Position}
use Rattle.range_plane.specs.Polygon.{IsPolygon}
use Rattle.range_cover.proofs.ForCallers.{covered_points_stay_covered}
use Rattle.range_stats.proofs.batches.add_flagged.Goals.{then-left-flags, else-left-flags}
use Rattle.range_stats.proofs.batches.add_flagged.Goals as goal

pub add_point-requires-clause-covered : goal.add_point-requires-clause-covered
add_point-requires-clause-covered g c = λ flagged.
    let points = c.args.batch.now.points in
    let corners = c.args.hull.now.corners in
    let p = c.at.result in
    let index = c.loop-left.left - 1 in
    let taken = drop c.loop-left.left points in
    let flag : get_or c.args.flags.now index false ≡ true = elim c.if-left-flags.branch [
      | then-left-flags w ↦ sym w.known-is ∙ flagged
      | else-left-flags w ↦ absurd (grind (arith, tests, sym w.known-is ∙ flagged, w.if-left-flags.false))
    ] in
    covered_points_stay_covered corners (taken ++ corners) corners c.loop-left.hull.corners p c.requires.polygon
    (c.loop-left.invariant.set corners c.requires.polygon) (λ s. Contains-append_right taken corners s)
    (c.requires.flags index p flag c.at.ensures)

pub loop-left-preserved : goal.loop-left-preserved
loop-left-preserved g c =
    let points = c.args.batch.now.points in
    let left = c.loop-left.left in
    let p = c.at.result in
    let here : p ≡ get_or points (left - 1) p = sym (get_or_from_slice_get points (left - 1) p p c.at.ensures) in
    let inv = c.loop-left.invariant in
    let within : left - 1 < length points = omega (arith, inv.within, c.loop-left-test.true) in
    let next : suc (left - 1) ≡ left = omega (arith, c.loop-left-test.true) in
    let longer : p ∷ drop left points ≡ drop (left - 1) points =
    sym (drop-cons points (left - 1) p within ∙ ap (λ q. q ∷ drop (suc (left - 1)) points) (sym here) ∙ ap (λ n. p ∷ drop n points) next) in
    record {
      within = omega (arith, within);
      room = omega (arith, inv.room, c.add_point.ensures.spare, c.loop-left-test.true);
      counted = omega (arith, inv.counted, c.add_point.ensures.points, c.loop-left-test.true);
      set = λ S before. subst (λ (l : List Position). IsPolygon (l ++ S) c.add_point.new.hull.corners) longer
          (c.add_point.ensures.set (drop left points ++ S) (inv.set S before));
    }

pub returns-clause-set : goal.returns-clause-set
returns-clause-set g c = λ S before.
    let none : c.loop-left.left ≡ 0 = omega (arith, c.loop-left-test.false) in
    subst (λ n. IsPolygon (drop n c.args.batch.now.points ++ S) c.loop-left.hull.corners) none (c.loop-left.invariant.set S before)
