use Rattle.range_line.proofs.MessageFacts.{the_mark_is_last}
use Rattle.range_line.proofs.laws.the_mark_is_last.Goals as goal

pub returns : goal.returns
returns c = the_mark_is_last
