use Rattle.split_table.proofs.PlainLines.{plain_records}
use Rattle.split_table.proofs.laws.plain_records_are_lines.Goals as goal

pub returns : goal.returns
returns c = plain_records
