use Rattle.std.proofs.Common.{take}
use Rattle.range_stats.specs.Keys.{IsGreatestCut}
use Rattle.range_stats.proofs.cuts.greatest_cut.Given as goal

abbrev pub invariant-loop-level : goal.invariant-loop-level
invariant-loop-level l = IsGreatestCut (take l.level-index l.levels) l.count l.limit l.greatest
