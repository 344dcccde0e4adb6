use Rattle.std.proofs.Common.{rules}
use Rattle.range_pump.proofs.file_pump.send_block.Goals as goal

pub returns-clause-sent : goal.returns-clause-sent
returns-clause-sent g c = search rules

pub returns-clause-gone : goal.returns-clause-gone
returns-clause-gone g c = search rules
