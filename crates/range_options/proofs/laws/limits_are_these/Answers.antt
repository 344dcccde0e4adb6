use Rattle.std.proofs.Common.{refl}
use Rattle.range_options.proofs.laws.limits_are_these.Goals as goal

pub returns-clause-block : goal.returns-clause-block
returns-clause-block c = refl

pub returns-clause-depth : goal.returns-clause-depth
returns-clause-depth c = refl

pub returns-clause-files : goal.returns-clause-files
returns-clause-files c = refl

pub returns-clause-level_count : goal.returns-clause-level_count
returns-clause-level_count c = refl

pub returns-clause-level : goal.returns-clause-level
returns-clause-level c = refl

pub returns-clause-workers : goal.returns-clause-workers
returns-clause-workers c = refl
