-- A report is read back.
use Rattle.std.specs.Prelude.{◌≡◌, ◌≤◌, ℕ, List, length, map, Some}
use Rattle.range_fixes.specs.Reading.{reading}
use Rattle.range_options.specs.Levels.{AreLevels}
use Rattle.range_options.specs.Limits.{file_limit}
use Rattle.range_plane.specs.declared.scale.Scale.{Scale}
use Rattle.range_analysis.specs.Sources.{IsAnalysisOf}
use Rattle.range_analysis.specs.declared.analysis.Analysis.{Analysis}
use Rattle.range_report.specs.Report.{report_text}
use Rattle.page_report.specs.Reading.{found_in, report_of}
use Rattle.page_laws.specs.Back.{report_from}
use Rattle.page_laws.specs.Within.{IsAnalysisWithin}

-- the text of the report of an analysis is a report, which says what the analysis has
abbrev pub IsReadBack : Analysis → Type 0
IsReadBack analysis = found_in (report_of (report_text analysis)) ≡ Some (report_from analysis)

-- so it is where names and numbers are those that a report may have
abbrev pub ReportsWithinLimitsAreReadBack : Type 0
ReportsWithinLimitsAreReadBack = (analysis : Analysis) → IsAnalysisWithin analysis → IsReadBack analysis

-- and so are those of each analysis of files that tell their bytes
abbrev pub AReportIsReadBack : Type 0
AReportIsReadBack = (files : List (List ℕ)) (levels : List ℕ) (unit : Scale) (analysis : Analysis) → length files ≤ file_limit → AreLevels levels
    → IsAnalysisOf (map (λ bytes. Some (reading unit bytes)) files) levels unit analysis → IsReadBack analysis
