use Rattle.split_record.proofs.SeparatorFacts.{line_has_none}
use Rattle.split_record.proofs.laws.lines_have_no_separators.Goals as goal

pub returns : goal.returns
returns c = λ «record» place none within. line_has_none _
