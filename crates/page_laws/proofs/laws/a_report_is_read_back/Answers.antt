use Rattle.page_laws.proofs.AnalysisWithin.{analysis_within}
use Rattle.page_laws.proofs.ReportBack.{report_back}
use Rattle.page_laws.proofs.laws.a_report_is_read_back.Goals as goal

pub returns : goal.returns
returns c =
    λ files levels unit analysis few are_levels is. report_back analysis (analysis_within c.reads_exactly.ensures unit levels are_levels files analysis few is)
