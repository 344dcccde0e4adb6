use Rattle.std.proofs.Common.{arith}
use Rattle.std.proofs.lemmas.Grind.{common_steps}
use Rattle.range_report.specs.Report.{report_text}
use Rattle.range_report.proofs.report_text.report_parts.Goals as goal

pub returns : goal.returns
unfolding report_text
returns g c = grind (arith, common_steps)
