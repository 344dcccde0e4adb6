use Rattle.range_texts.proofs.OneLines.{name_line}
use Rattle.range_texts.proofs.laws.shown_names_are_one_line.Goals as goal

pub returns : goal.returns
returns c = name_line
