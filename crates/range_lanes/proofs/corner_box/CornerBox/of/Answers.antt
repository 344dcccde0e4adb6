use Rattle.std.proofs.Common.{subst, sym}
use Rattle.std.proofs.lemmas.List.{take_all}
use Rattle.range_lemmas.proofs.Members.{empty_contains_nothing}
use Rattle.range_lanes.proofs.CornerBoxes.{AreInBox, box_more}
use Rattle.range_lanes.proofs.corner_box.CornerBox.of.Goals as goal

pub loop-corner-init : goal.loop-corner-init
loop-corner-init c = λ p none. absurd (empty_contains_nothing p none)

pub loop-corner-preserved : goal.loop-corner-preserved
loop-corner-preserved c =
    let corner = c.corner-item.result in
    let more = box_more c.loop-corner.low c.loop-corner.high c.args.corners.now c.loop-corner.corner-index corner c.loop-corner-test.true
    (sym c.corner-item.is) c.loop-corner.invariant in
    rw (c.southwest-low.ensures, c.northeast-high.ensures) more

pub returns : goal.returns
returns c =
    subst (AreInBox c.loop-corner.low c.loop-corner.high) (take_all c.loop-corner.corner-index c.args.corners.now c.loop-corner-test.false)
    c.loop-corner.invariant
