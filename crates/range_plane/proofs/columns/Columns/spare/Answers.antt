use Rattle.std.proofs.Common.{rules}
use Rattle.range_plane.proofs.columns.Columns.spare.Goals as goal

pub returns : goal.returns
returns g c = search rules
