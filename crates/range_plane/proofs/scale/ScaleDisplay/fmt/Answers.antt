use Rattle.std.proofs.Common.{rules}
use Rattle.range_plane.proofs.scale.ScaleDisplay.fmt.Goals as goal

pub returns-in-Metre-clause-writes : goal.returns-in-Metre-clause-writes
returns-in-Metre-clause-writes g c = search rules
