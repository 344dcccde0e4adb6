use Rattle.range_plane.proofs.Round.{GoesRound}
use Rattle.range_plane.proofs.plain.corners_of.Given as goal

abbrev pub invariant-loop-p : goal.invariant-loop-p
invariant-loop-p g l = GoesRound l.points l.p-index l.corners.items
