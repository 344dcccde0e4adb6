use Rattle.std.proofs.Common.{◌≢◌, ◌<◌, ℕ}
use Rattle.split_folder.specs.Names.{name_at}
use Rattle.split_folder.specs.Fault.{names_in}
use Rattle.split_folder.proofs.names.same_before.Given as goal

abbrev pub invariant-loop-before : goal.invariant-loop-before
invariant-loop-before l = (j : ℕ) → j < l.before → name_at (names_in l.files) j ≢ name_at (names_in l.files) l.file
