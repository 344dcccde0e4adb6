-- How the program ends after a run.
use Rattle.std.specs.Prelude.{ℕ, Result, Ok, Err}
use Rattle.range_analysis.specs.declared.analyse_fault.AnalyseFault.TheVariants as analyses
use Rattle.range_run.specs.declared.run_fault.RunFault.{RunFault}
use Rattle.range_run.specs.declared.run_fault.RunFault.TheVariants as runs

-- the status with which the program ends, for each fault of a run
abbrev pub fault_status : RunFault → ℕ
fault_status (runs.Analyse (analyses.File file fault)) = 1
fault_status (runs.Analyse (analyses.SameAnimal first second animal)) = 1
fault_status (runs.Analyse (analyses.LineCut file)) = 5
fault_status (runs.Analyse analyses.OutOfMemory) = 3
fault_status runs.OutOfMemory = 3
fault_status runs.Write = 4

-- the status of a run: 0 after a report, or else that of its fault
abbrev pub status_of : Result (Unit {0}) RunFault → ℕ
status_of (Ok _) = 0
status_of (Err fault) = fault_status fault
