use Rattle.page_text.proofs.AttributeFacts.{attribute_back}
use Rattle.page_text.proofs.laws.attributes_are_read_back.Goals as goal

pub returns : goal.returns
returns c = attribute_back
