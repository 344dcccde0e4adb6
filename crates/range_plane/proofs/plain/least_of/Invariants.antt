use Rattle.range_plane.proofs.Least.{IsLeastOfFirst}
use Rattle.range_plane.proofs.plain.least_of.Given as goal

abbrev pub invariant-loop-p : goal.invariant-loop-p
invariant-loop-p l = IsLeastOfFirst l.points l.p-index l.least
