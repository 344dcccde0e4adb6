use Rattle.range_line.proofs.feeder.Feeder.closed.Goals as goal

pub returns-clause-value : goal.returns-clause-value
returns-clause-value g c = cc
