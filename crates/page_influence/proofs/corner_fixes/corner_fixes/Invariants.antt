use Rattle.std.proofs.Common.{take}
use Rattle.page_influence.specs.Layers.{AreCornerFixes}
use Rattle.page_influence.proofs.corner_fixes.corner_fixes.Given as goal

abbrev pub invariant-loop-corner : goal.invariant-loop-corner
invariant-loop-corner l = AreCornerFixes l.points.points (take l.corner-index l.corners) l.fixes.items
