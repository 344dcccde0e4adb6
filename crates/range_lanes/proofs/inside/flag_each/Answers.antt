use Rattle.std.proofs.Common.{◌≡◌, ◌+◌, ◌<◌, ◌++◌, ◌∷◌, [], length, map, take, set, sym, ap, ◌∙◌, append_assoc, arith}
use lib.Lanes.{chunk}
use Rattle.std.proofs.lemmas.List.{length-set, take_more_set}
use Rattle.range_plane.specs.ConvexCover.{is_covered}
use Rattle.range_lanes.proofs.Eights.{group_more}
use Rattle.range_lanes.proofs.inside.flag_each.Goals as goal

pub loop-i-preserved : goal.loop-i-preserved
loop-i-preserved g c =
    let at = c.args.at in
    let i = c.loop-i.i in
    let ps = c.args.cols.now.points in
    let test = is_covered c.args.polygon.now in
    let before = take at c.args.flags.now in
    let inv = c.loop-i.invariant in
    let index : at + i < length ps = omega (arith, c.loop-i-test.true, c.requires.room) in
    let next : at + (i + 1) ≡ (at + i) + 1 = omega arith in
    let flag = c.is_known_or_covered.result in
    let more = ap (λ b. map test (chunk at i ps) ++ b ∷ []) c.is_known_or_covered.ensures ∙ sym (group_more test ps at i c.at.result index c.at.ensures) in
    record {
      length = length-set c.loop-i.flags (at + i) flag ∙ inv.length;
      flags = ap (λ k. take k (set c.loop-i.flags (at + i) flag)) next ∙ take_more_set c.loop-i.flags (at + i) flag (omega (arith, index, inv.length))
          ∙ ap (λ l. l ++ flag ∷ []) inv.flags ∙ append_assoc before (map test (chunk at i ps)) (flag ∷ []) ∙ ap (λ l. before ++ l) more;
    }
