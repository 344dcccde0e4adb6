use Rattle.std.proofs.Common.{rules}
use Rattle.range_plane.proofs.columns.Columns.new.Goals as goal

pub returns-clause-spare : goal.returns-clause-spare
returns-clause-spare g c = search rules
