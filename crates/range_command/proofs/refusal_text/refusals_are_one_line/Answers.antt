use Rattle.range_command.proofs.OneLine.{refusal_line, short_is_one_line}
use Rattle.range_command.proofs.refusal_text.refusals_are_one_line.Goals as goal

pub returns-clause-whole : goal.returns-clause-whole
returns-clause-whole c = refusal_line

pub returns-clause-short : goal.returns-clause-short
returns-clause-short c = short_is_one_line
