-- What the sources of files come to, by their readings where they tell their bytes.
use Rattle.std.specs.Prelude.{◌≡◌, ◌≢◌, ◌<◌, ℕ, ⊤, List, length, Option, Some, None, IfSome, true}
use Rattle.std.specs.List.{AllZip}
use Rattle.range_plane.specs.declared.fix.Fix.{Fix}
use Rattle.range_plane.specs.declared.scale.Scale.{Scale}
use Rattle.range_fixes.specs.declared.read_fault.ReadFault.TheVariants as reads
use Rattle.range_fixes.specs.Progress.{is_of_text}
use Rattle.range_fixes.specs.Reading.{Reading}
use Rattle.range_analysis.specs.declared.analysis.Analysis.{Analysis}
use Rattle.range_analysis.specs.Analysis.{HasNoAnalysis, IsAnalysis}
use Rattle.range_analysis.specs.Entries.{Entry, of_animal, of_fault}
use Rattle.range_analysis.specs.declared.analyse_fault.AnalyseFault.{AnalyseFault}
use Rattle.range_analysis.specs.declared.analyse_fault.AnalyseFault.TheVariants.{OutOfMemory, LineCut}

-- the reading goes to the end of its file, with this animal and these fixes
pub record IsWhole (r : Reading) (name : List ℕ) (fixes : List Fix) : Type 0 where
  pub animal : r.animal ≡ Some name
  pub all : r.fixes ≡ fixes
  pub to_end : r.fault ≡ None

-- the source gives this entry: an animal and at least one fix, or a fault; where it tells its bytes, its reading says
-- the same, but for a read that failed
abbrev pub Gives : Option Reading → Entry → Type 0
Gives source (of_animal name fixes) = (0 < length fixes) × IfSome source (λ r. IsWhole r name fixes)
Gives source (of_fault fault) =
    (fault ≢ reads.OutOfMemory) × (fault ≢ reads.Gone) × IfSome source (λ r. is_of_text fault ≡ true → r.fault ≡ Some fault)

-- this is the analysis, with percent polygons at these levels and in this unit, of entries that the sources give
abbrev pub IsAnalysisOf : List (Option Reading) → List ℕ → Scale → Analysis → Type 0
IsAnalysisOf sources levels unit analysis = (entries : List Entry) × AllZip Gives sources entries × IsAnalysis entries levels unit analysis

-- why sources have no analysis: memory ran out, the fixes of one of the files were not all handed on, or what is wrong
-- with entries that they give
abbrev pub HasNoAnalysisOf : List (Option Reading) → AnalyseFault → Type 0
HasNoAnalysisOf sources OutOfMemory = ⊤
HasNoAnalysisOf sources (LineCut file) = file < length sources
HasNoAnalysisOf sources fault = (entries : List Entry) × AllZip Gives sources entries × HasNoAnalysis entries fault
