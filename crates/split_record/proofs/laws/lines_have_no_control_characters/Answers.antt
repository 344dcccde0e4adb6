use Rattle.split_record.proofs.LineFacts.{line_plain}
use Rattle.split_record.proofs.laws.lines_have_no_control_characters.Goals as goal

pub returns : goal.returns
returns c = λ «record» place none within. line_plain _
