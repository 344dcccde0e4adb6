use Rattle.std.proofs.Common.{arith}
use Rattle.std.proofs.lemmas.Grind.{common_steps}
use Rattle.range_plane.proofs.convex.turns_left.Goals as goal

pub returns-then-turn-gt0 : goal.returns-then-turn-gt0
returns-then-turn-gt0 c = grind (arith, common_steps)
