-- The text that was written is the report of an analysis.
use Rattle.std.proofs.Common.{◌≡◌, ℕ, List, Option, subst, sym}
use Rattle.std.specs.Prelude.{Result, Err, IfErr, OnErr, OnOk}
use Rattle.std.specs.Io.KnownBytes.{Appends}
use Rattle.std.proofs.lemmas.Result.{IfErr-weaker, on_ok_weaker}
use Rattle.range_analysis.specs.declared.analysis.Analysis.{Analysis}
use Rattle.range_plane.specs.declared.scale.Scale.{Scale}
use Rattle.range_fixes.specs.Reading.{Reading}
use Rattle.range_analysis.specs.Sources.{IsAnalysisOf}
use Rattle.range_report.specs.Report.{report_text}
use Rattle.range_run.specs.WrittenPrefix.{AppendsPrefix}
use Rattle.range_run.specs.Run.{Explains, WritesPrefix, WritesReport}
use Rattle.range_run.specs.declared.run_fault.RunFault.{RunFault}
use Rattle.range_run.specs.declared.run_fault.RunFault.TheVariants as runs

-- where the text that was written is that of an analysis of the sources, its report was written
pub writes_report : {T E : Type 0} (sources : List (Option Reading)) (levels given text : List ℕ) (unit : Scale) (old new : Option (List ℕ))
    (analysis : Analysis) (r : Result T E)
    → given ≡ levels → text ≡ report_text analysis → IsAnalysisOf sources given unit analysis → OnOk r (Appends old new text)
    → OnOk r (WritesReport sources levels unit old new)
writes_report sources levels given text unit old new analysis r same is analysed written =
    let of_levels = subst (λ l. IsAnalysisOf sources l unit analysis) same analysed in
    on_ok_weaker r (λ bytes. (analysis, of_levels, subst (λ t. Appends old new t) is bytes)) written

-- where the writing of it failed, a prefix of the report was written
pub writes_prefix : {T E : Type 0} (sources : List (Option Reading)) (levels given text : List ℕ) (unit : Scale) (old new : Option (List ℕ))
    (analysis : Analysis) (r : Result T E) (fault : E)
    → given ≡ levels → text ≡ report_text analysis → IsAnalysisOf sources given unit analysis → OnErr r (AppendsPrefix old new text) → r ≡ Err fault
    → WritesPrefix sources levels unit old new
writes_prefix sources levels given text unit old new analysis r fault same is analysed written failed =
    let of_levels = subst (λ l. IsAnalysisOf sources l unit analysis) same analysed in
    let prefix = subst (λ s. OnErr s (AppendsPrefix old new text)) failed written in
    (analysis, of_levels, subst (λ t. AppendsPrefix old new t) is prefix)

-- where there is an analysis, a run may end with the fault of writing its report
pub explained : {T : Type 0} (sources : List (Option Reading)) (levels given : List ℕ) (unit : Scale) (analysis : Analysis) (r : Result T RunFault)
    → given ≡ levels → IsAnalysisOf sources given unit analysis → IfErr r (λ fault. fault ≡ runs.Write) → IfErr r (Explains sources levels unit)
explained sources levels given unit analysis r same analysed =
    let of_levels = subst (λ l. IsAnalysisOf sources l unit analysis) same analysed in
    IfErr-weaker r (λ fault. fault ≡ runs.Write) (Explains sources levels unit)
    (λ fault is. subst (Explains sources levels unit) (sym is) (analysis, of_levels))
