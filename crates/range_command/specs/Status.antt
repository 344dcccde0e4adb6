-- How the program ends where it is refused.
use Rattle.std.specs.Prelude.{ℕ, Err}
use Rattle.range_run.specs.Status.{status_of}
use Rattle.range_words.specs.declared.words.WordFault.TheVariants as words
use Rattle.range_command.specs.declared.refusal.Refusal.{Refusal}
use Rattle.range_command.specs.declared.refusal.Refusal.TheVariants as refusals

-- the status with which the program ends, for each refusal
abbrev pub refusal_status : Refusal → ℕ
refusal_status refusals.OutOfMemory = 3
refusal_status (refusals.NotText word) = 2
refusal_status (refusals.BadWords line) = 2
refusal_status (refusals.CommandLine words.OutOfMemory) = 3
refusal_status (refusals.CommandLine fault) = 2
refusal_status (refusals.Unopened path reason) = 1
refusal_status (refusals.Unwritten reason) = 4
refusal_status (refusals.Run files fault reason) = status_of (Err fault)
