use Rattle.split_record.specs.Lines.{lines_of}
use Rattle.split_record.proofs.LineFacts.{lines_written}
use Rattle.split_record.proofs.laws.each_line_is_one_that_was_given.Goals as goal

pub returns : goal.returns
returns c = λ «record». lines_written (lines_of «record»)
