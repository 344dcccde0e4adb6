use Rattle.std.proofs.Common.{take}
use Rattle.page_influence.specs.Layers.{AreFlags}
use Rattle.page_influence.proofs.corner_fixes.flags_of.Given as goal

abbrev pub invariant-loop-fix : goal.invariant-loop-fix
invariant-loop-fix l = AreFlags l.count (take l.fix-index l.fixes) l.flags.items
