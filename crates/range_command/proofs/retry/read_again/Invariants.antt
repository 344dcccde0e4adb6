use Rattle.std.specs.Io.KnownBytes.{Keeps}
use Rattle.range_command.proofs.retry.read_again.Given as goal

abbrev pub invariant-loop : goal.invariant-loop
invariant-loop g l = Keeps (g.S.Read.remaining l.initial.source) (g.S.Read.remaining l.source)
