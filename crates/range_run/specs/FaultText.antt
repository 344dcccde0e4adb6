-- What is said of a run that has no report.
use Rattle.std.specs.Prelude.{ℕ, List, codes}
use Rattle.range_analysis.specs.FaultText.{analyse_text}
use Rattle.range_run.specs.declared.run_fault.RunFault.{RunFault}
use Rattle.range_run.specs.declared.run_fault.RunFault.TheVariants as runs

-- what is said of a run that has no report
abbrev pub run_text : RunFault → List ℕ
run_text (runs.Analyse fault) = analyse_text fault
run_text runs.OutOfMemory = codes "out of memory"
run_text runs.Write = codes "the report could not be written"
