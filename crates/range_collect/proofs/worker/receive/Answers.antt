use Rattle.std.proofs.Common.{arith, rules}
use Rattle.std.proofs.lemmas.Grind.{common_steps}
use Rattle.range_collect.proofs.worker.receive.Goals as goal

pub take_block-requires-clause-running : goal.take_block-requires-clause-running
take_block-requires-clause-running g c = search rules

pub take_block-requires-clause-few : goal.take_block-requires-clause-few
take_block-requires-clause-few g c = search rules

pub returns : goal.returns
returns g c = grind (arith, common_steps)
