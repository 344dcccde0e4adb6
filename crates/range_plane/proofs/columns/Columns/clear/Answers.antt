use Rattle.std.proofs.Common.{rules}
use Rattle.range_plane.proofs.columns.Columns.clear.Goals as goal

pub invariant_of-self : goal.invariant_of-self
invariant_of-self g c = search rules

pub returns-clause-points : goal.returns-clause-points
returns-clause-points g c = cc
