use Rattle.range_line.proofs.MessageFacts.{messages_add_their_fixes}
use Rattle.range_line.proofs.laws.messages_add_their_fixes.Goals as goal

pub returns : goal.returns
returns c = messages_add_their_fixes
