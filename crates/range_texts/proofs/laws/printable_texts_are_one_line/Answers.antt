use Rattle.range_texts.proofs.OneLines.{printable}
use Rattle.range_texts.proofs.laws.printable_texts_are_one_line.Goals as goal

pub returns : goal.returns
returns c = printable
