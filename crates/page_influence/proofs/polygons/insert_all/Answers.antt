use Rattle.std.proofs.Common.{◌≡◌, suc, ◌-◌, ◌<◌, ◌++◌, ◌∷◌, List, length, drop, sym, ap, subst, ◌∙◌, arith}
use Rattle.std.proofs.Math.Seq.{drop-cons}
use Rattle.range_plane.specs.Plane.{Position}
use Rattle.range_plane.specs.Polygon.{IsPolygon}
use Rattle.page_influence.proofs.polygons.insert_all.Goals as goal

pub loop-left-preserved : goal.loop-left-preserved
loop-left-preserved c =
    let points = c.args.points.now in
    let left = c.loop-left.left in
    let p = c.index-points-left.result in
    let inv = c.loop-left.invariant in
    let within : left - 1 < length points = omega (arith, inv.within, c.loop-left-test.true) in
    let next : suc (left - 1) ≡ left = omega (arith, c.loop-left-test.true) in
    let longer : p ∷ drop left points ≡ drop (left - 1) points =
    sym (drop-cons points (left - 1) p within ∙ ap (λ q. q ∷ drop (suc (left - 1)) points) (sym c.index-points-left.is) ∙ ap (λ n. p ∷ drop n points) next) in
    record {
      within = omega (arith, within);
      room = omega (arith, inv.room, c.insert.ensures.spare, c.loop-left-test.true);
      counted = omega (arith, inv.counted, c.insert.ensures.inserted, c.insert.ensures.skipped, c.loop-left-test.true);
      set = λ S before. subst (λ (l : List Position). IsPolygon (l ++ S) c.insert.new.self.corners) longer
          (c.insert.ensures.set (drop left points ++ S) (inv.set S before));
    }

pub returns-clause-set : goal.returns-clause-set
returns-clause-set c = λ S before.
    let none : c.loop-left.left ≡ 0 = omega (arith, c.loop-left-test.false) in
    subst (λ n. IsPolygon (drop n c.args.points.now ++ S) c.loop-left.hull.corners) none (c.loop-left.invariant.set S before)
