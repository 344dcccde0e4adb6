use Rattle.std.proofs.Common.{◌++◌, ◌∷◌, [], List, arith, sym, ap, subst, ◌∙◌, append_assoc, take}
use Rattle.std.proofs.lemmas.List.{map-append}
use Rattle.std.proofs.lemmas.List.Elements.{Contains-append_left}
use Rattle.range_plane.specs.Plane.{Position}
use Rattle.range_plane.specs.Polygon.{IsPolygon}
use Rattle.range_plane.specs.Row.{points_of}
use Rattle.range_plane.specs.declared.fix.Fix.{Fix}
use Rattle.range_cover.proofs.ForCallers.{covered_points_stay_covered}
use Rattle.range_estimator.specs.Table.{fixes_in}
use Rattle.range_estimator.proofs.FlaggedBlocks.{count_more, flag_at, taken_more, untested_more}
use Rattle.range_estimator.proofs.table.Table.take_flagged.Goals as goal

pub take-requires-clause-covered : goal.take-requires-clause-covered
take-requires-clause-covered g c = λ flagged.
    let corners = c.args.self.now.hull.corners in
    let before = points_of (fixes_in c.args.self.now) in
    let taken = take c.loop-i.i c.args.block.now in
    let points = ap points_of c.loop-i.invariant.fixes ∙ map-append (λ (f : Fix). f.at) (fixes_in c.args.self.now) taken in
    let polygon = subst (λ (S : List Position). IsPolygon S c.loop-i.self.hull.corners) points c.loop-i.invariant.sound.estimate.polygon in
    let flag = flag_at corners c.args.block.now c.args.flags.now c.loop-i.i c.index-block-i.result c.requires.flags c.loop-i-test.true c.index-block-i.is in
    covered_points_stay_covered before (before ++ points_of taken) corners c.loop-i.self.hull.corners c.index-block-i.result.at
    c.requires.sound.estimate.polygon polygon (λ s. Contains-append_left before (points_of taken) s) (sym flag ∙ flagged)

pub loop-i-preserved : goal.loop-i-preserved
loop-i-preserved g c =
    let old = c.args.self.now in
    let block = c.args.block.now in
    let fix = c.index-block-i.result in
    let inv = c.loop-i.invariant in
    let flag = flag_at old.hull.corners block c.args.flags.now c.loop-i.i fix c.requires.flags c.loop-i-test.true c.index-block-i.is in
    record {
      sound = c.take.ensures.sound;
      fixes = c.take.ensures.fixes ∙ (ap (λ (l : List Fix). l ++ fix ∷ []) inv.fixes
          ∙ (append_assoc (fixes_in old) (take c.loop-i.i block) (fix ∷ [])
          ∙ ap (λ (l : List Fix). fixes_in old ++ l) (sym (taken_more block c.loop-i.i fix c.loop-i-test.true c.index-block-i.is))));
      room = omega (arith, inv.room, c.take.ensures.spare);
      tested = omega (arith, inv.tested, c.take.ensures.tested, count_more old.hull.corners block c.loop-i.i fix _ c.loop-i-test.true c.index-block-i.is flag);
      untested = untested_more _ old.hull.inserted c.loop-i.self.hull.inserted c.take.new.self.hull.inserted _ old.hull.corners c.loop-i.self.hull.corners
          c.take.new.self.hull.corners inv.tested c.take.ensures.tested inv.untested c.take.ensures.covered;
    }
