use Rattle.std.proofs.Common.{rules}
use Rattle.range_report.proofs.report_text.head_of.Goals as goal

pub returns-in-Metre : goal.returns-in-Metre
returns-in-Metre c = search rules

pub returns-in-Decimetre : goal.returns-in-Decimetre
returns-in-Decimetre c = search rules
