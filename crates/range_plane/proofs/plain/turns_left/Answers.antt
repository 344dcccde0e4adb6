use Rattle.std.proofs.Common.{rules}
use Rattle.range_plane.proofs.plain.turns_left.Goals as goal

pub returns : goal.returns
returns c = search rules
