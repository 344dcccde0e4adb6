use Rattle.std.proofs.Common.{rules}
use Rattle.range_estimator.proofs.estimator.Estimator.polygon.Goals as goal

pub returns-clause-value : goal.returns-clause-value
returns-clause-value g c = search rules

pub returns-clause-polygon : goal.returns-clause-polygon
returns-clause-polygon g c = search rules
