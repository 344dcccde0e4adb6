use Rattle.std.proofs.Common.{rules}
use Rattle.range_run.proofs.run_fault.RunFault.status.Goals as goal

pub returns-in-Analyse-File : goal.returns-in-Analyse-File
returns-in-Analyse-File c = search rules

pub returns-in-Analyse-OutOfMemory : goal.returns-in-Analyse-OutOfMemory
returns-in-Analyse-OutOfMemory c = search rules

pub returns-in-Analyse-OutOfMemory-2 : goal.returns-in-Analyse-OutOfMemory-2
returns-in-Analyse-OutOfMemory-2 c = search rules

pub returns-in-Write : goal.returns-in-Write
returns-in-Write c = search rules

pub returns-in-Analyse-LineCut : goal.returns-in-Analyse-LineCut
returns-in-Analyse-LineCut c = search rules
