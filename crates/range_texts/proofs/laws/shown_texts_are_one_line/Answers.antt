use Rattle.range_texts.proofs.OneLines.{shown_line}
use Rattle.range_texts.proofs.laws.shown_texts_are_one_line.Goals as goal

pub returns : goal.returns
returns c = shown_line
