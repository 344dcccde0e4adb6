use Rattle.range_texts.proofs.OneLines.{joined}
use Rattle.range_texts.proofs.laws.joined_lines_are_one_line.Goals as goal

pub returns : goal.returns
returns c = joined
