use Rattle.std.proofs.Common.{◌≡◌, drop, fold}
use Rattle.split_doubts.specs.Gaps.{widest, with_next}
use Rattle.split_doubts.proofs.gap.widest.Given as goal

abbrev pub invariant-loop-coordinate : goal.invariant-loop-coordinate
invariant-loop-coordinate l = widest l.sorted ≡ (fold with_next l.walk (drop l.coordinate-index l.sorted)).widest
