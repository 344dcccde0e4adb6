use Rattle.std.proofs.Common.{arith, ◌∷◌, ◌+◌, length, subst, ap, pos}
use Rattle.range_plane.specs.Polygon.{IsPolygon}
use Rattle.range_plane.proofs.ForCallers.{corners_stand_for_the_set, covering_is_reaching, covering_members_are_corners}
use Rattle.range_pieces.specs.Pieces.{all_points}
use Rattle.range_hull.specs.Hull.{Hull, corners_of}
use Rattle.range_hull.proofs.Area.{area_extended}
use Rattle.range_hull.proofs.Hulls.{chains_extended, corners_added, polygon_extended}
use Rattle.range_hull.proofs.hull.OnlineHull.insert.Given as given
use Rattle.range_hull.proofs.hull.OnlineHull.insert.Goals as goal

pub invariant_of-self : goal.invariant_of-self
invariant_of-self g c =
    let lower = c.extend.ensures in
    let upper = c.extend-2.ensures in record {
      chains = chains_extended _ _ _ _ c.args.p lower.limits c.self.invariant.chains lower.chain upper.chain;
      few = omega (arith, c.requires.few, ap (λ (h : Hull). h.inserted + h.skipped) c.self.view_is);
      paid = omega (arith, c.self.invariant.paid, lower.turns, upper.turns);
      area = area_extended _ _ _ _ (pos c.self.inside.tally.area) (pos c.extend.new.tally.area)
          (pos c.extend-2.new.tally.area) c.self.invariant.chains c.args.p c.self.invariant.area lower.swept upper.swept;
    }

polygon : (g : given.Over) (c : goal.After-self-1 g) → IsPolygon (c.args.p ∷ c.args.self.now.corners)
    (corners_of (all_points c.extend.new.chain.pieces) (all_points c.extend-2.new.chain.pieces))
polygon g c =
    subst (λ (h : Hull). IsPolygon (c.args.p ∷ h.corners) (corners_of (all_points c.extend.new.chain.pieces)
    (all_points c.extend-2.new.chain.pieces))) c.self.view_is
    (polygon_extended covering_is_reaching covering_members_are_corners _ _ _ _ c.args.p c.extend.ensures.limits c.self.invariant.chains
    c.extend.ensures.chain c.extend-2.ensures.chain)

pub returns-clause-corners : goal.returns-clause-corners
returns-clause-corners g c = polygon g c

pub returns-clause-set : goal.returns-clause-set
returns-clause-set g c = λ S old. (corners_stand_for_the_set S _ _ c.args.p old).0 (polygon g c)

pub returns-clause-turns : goal.returns-clause-turns
returns-clause-turns g c =
    let lower = c.extend.ensures in
    let upper = c.extend-2.ensures in
    let added = corners_added (all_points c.self.inside.lower.pieces) (all_points c.extend.new.chain.pieces) c.self.invariant.chains.upper upper.chain in
    omega (arith, added, lower.turns, upper.turns, ap (λ (h : Hull). h.turns + length h.corners) c.self.view_is)
