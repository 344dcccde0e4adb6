use Rattle.std.proofs.Common.{refl}
use Rattle.range_plane.proofs.laws.limits_are_these.Goals as goal

pub returns-clause-metres : goal.returns-clause-metres
returns-clause-metres c = refl

pub returns-clause-fixes : goal.returns-clause-fixes
returns-clause-fixes c = refl

pub returns-clause-seconds : goal.returns-clause-seconds
returns-clause-seconds c = refl
