use Rattle.std.proofs.Common.{rules}
use Rattle.range_line.proofs.feeder.Feeder.next_message.Goals as goal

pub returns : goal.returns
returns g c = search rules
