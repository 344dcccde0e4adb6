use Rattle.range_line.proofs.MessageFacts.{lines_are_in_order}
use Rattle.range_line.proofs.laws.lines_are_in_order.Goals as goal

pub returns : goal.returns
returns c = lines_are_in_order
