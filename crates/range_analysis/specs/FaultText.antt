-- What is said of files that have no analysis.
use Rattle.std.specs.Prelude.{ℕ, List, codes}
use Rattle.range_fixes.specs.FaultText.{fault_text}
use Rattle.range_analysis.specs.declared.analyse_fault.AnalyseFault.{AnalyseFault}
use Rattle.range_analysis.specs.declared.analyse_fault.AnalyseFault.TheVariants as analyses

-- what is said of files that have no analysis, without what the files are called
abbrev pub analyse_text : AnalyseFault → List ℕ
analyse_text analyses.OutOfMemory = codes "out of memory, or a thread could not be started"
analyse_text (analyses.LineCut file) = codes "its fixes were not all handed on"
analyse_text (analyses.File file fault) = fault_text fault
analyse_text (analyses.SameAnimal first second animal) = codes "have the same animal"
