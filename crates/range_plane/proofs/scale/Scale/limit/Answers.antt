use Rattle.std.proofs.Common.{rules}
use Rattle.range_plane.proofs.scale.Scale.limit.Goals as goal

pub returns-in-Metre-clause-value : goal.returns-in-Metre-clause-value
returns-in-Metre-clause-value c = search rules

pub returns-in-Decimetre-clause-value : goal.returns-in-Decimetre-clause-value
returns-in-Decimetre-clause-value c = search rules
