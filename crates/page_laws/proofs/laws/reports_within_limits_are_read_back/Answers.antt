use Rattle.page_laws.proofs.ReportBack.{report_back}
use Rattle.page_laws.proofs.laws.reports_within_limits_are_read_back.Goals as goal

pub returns : goal.returns
returns c = report_back
