use Rattle.std.proofs.Common.{◌≡◌, vec_len}
use Rattle.range_command.proofs.file_run.unset_errnos.Given as goal

abbrev pub invariant-loop : goal.invariant-loop
invariant-loop l = vec_len l.errnos ≡ l.counter
