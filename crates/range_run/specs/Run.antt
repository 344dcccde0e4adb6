-- What a run writes, and why it ends without its report.
use Rattle.std.specs.Prelude.{ℕ, List, Option}
use Rattle.std.specs.Io.KnownBytes.{Appends}
use Rattle.range_analysis.specs.declared.analysis.Analysis.{Analysis}
use Rattle.range_plane.specs.declared.scale.Scale.{Scale}
use Rattle.range_fixes.specs.Reading.{Reading}
use Rattle.range_analysis.specs.Sources.{HasNoAnalysisOf, IsAnalysisOf}
use Rattle.range_report.specs.Report.{report_text}
use Rattle.range_run.specs.WrittenPrefix.{AppendsPrefix}
use Rattle.range_run.specs.declared.run_fault.RunFault.{RunFault}
use Rattle.range_run.specs.declared.run_fault.RunFault.TheVariants as runs

-- the report of an analysis of the sources was written, and nothing else
abbrev pub WritesReport : List (Option Reading) → List ℕ → Scale → Option (List ℕ) → Option (List ℕ) → Type 0
WritesReport sources levels unit old new = (analysis : Analysis) × IsAnalysisOf sources levels unit analysis × Appends old new (report_text analysis)

-- a beginning of the report of an analysis of the sources was written, and nothing else
abbrev pub WritesPrefix : List (Option Reading) → List ℕ → Scale → Option (List ℕ) → Option (List ℕ) → Type 0
WritesPrefix sources levels unit old new = (analysis : Analysis) × IsAnalysisOf sources levels unit analysis × AppendsPrefix old new (report_text analysis)

-- a run over the sources may end with this fault: one of an analysis only where there is none, and one of the report
-- only where there is one
abbrev pub Explains : List (Option Reading) → List ℕ → Scale → RunFault → Type 0
Explains sources levels unit (runs.Analyse fault) = HasNoAnalysisOf sources fault
Explains sources levels unit fault = (analysis : Analysis) × IsAnalysisOf sources levels unit analysis
