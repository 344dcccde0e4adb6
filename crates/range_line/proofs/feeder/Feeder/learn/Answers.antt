use Rattle.range_line.proofs.Passes.{learns}
use Rattle.range_line.proofs.feeder.Feeder.learn.Goals as goal

pub learn_as-requires-clause-rule : goal.learn_as-requires-clause-rule
learn_as-requires-clause-rule g c = learns c.args.pass.now c.requires.taker.0
