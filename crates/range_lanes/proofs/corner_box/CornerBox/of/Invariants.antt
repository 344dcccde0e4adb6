use Rattle.std.proofs.Common.{take}
use Rattle.range_lanes.proofs.CornerBoxes.{AreInBox}
use Rattle.range_lanes.proofs.corner_box.CornerBox.of.Given as goal

abbrev pub invariant-loop-corner : goal.invariant-loop-corner
invariant-loop-corner l = AreInBox l.low l.high (take l.corner-index l.corners)
