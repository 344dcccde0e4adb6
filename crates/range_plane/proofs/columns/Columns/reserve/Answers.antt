use Rattle.std.proofs.Common.{rules}
use Rattle.range_plane.proofs.columns.Columns.reserve.Goals as goal

pub returns-clause-points : goal.returns-clause-points
returns-clause-points g c = search rules

pub returns-clause-ok : goal.returns-clause-ok
returns-clause-ok g c = search rules
