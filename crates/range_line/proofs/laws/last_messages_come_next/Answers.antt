use Rattle.range_line.proofs.MessageFacts.{last_messages_come_next}
use Rattle.range_line.proofs.laws.last_messages_come_next.Goals as goal

pub returns : goal.returns
returns c = last_messages_come_next
