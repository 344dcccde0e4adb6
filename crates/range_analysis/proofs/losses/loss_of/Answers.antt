use Rattle.std.proofs.Common.{rules}
use Rattle.range_analysis.proofs.losses.loss_of.Goals as goal

pub returns : goal.returns
returns c = search rules
