use Rattle.std.proofs.Common.{arith}
use Rattle.range_pieces.proofs.laws.sizes_are_these.Goals as goal

pub returns : goal.returns
returns c = omega arith
