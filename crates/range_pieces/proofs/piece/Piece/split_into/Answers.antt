use Rattle.std.proofs.Common.{arith}
use Rattle.std.proofs.lemmas.Grind.{common_steps}
use Rattle.range_pieces.proofs.piece.Piece.split_into.Goals as goal

pub invariant_of-other : goal.invariant_of-other
invariant_of-other g c = grind (arith, common_steps)

pub returns-clause-second : goal.returns-clause-second
returns-clause-second g c = grind (arith, common_steps)
