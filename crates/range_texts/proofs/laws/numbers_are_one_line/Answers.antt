use Rattle.range_texts.proofs.OneLines.{number}
use Rattle.range_texts.proofs.laws.numbers_are_one_line.Goals as goal

pub returns : goal.returns
returns c = number
