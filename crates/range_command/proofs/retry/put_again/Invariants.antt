use Rattle.std.specs.Io.KnownBytes.{Keeps}
use Rattle.range_command.specs.Outlet.{IsSteady}
use Rattle.range_command.proofs.retry.put_again.Given as goal

abbrev pub invariant-loop : goal.invariant-loop
invariant-loop g l =
    record {
      bytes : Keeps (g.W.Outlet.contents l.initial.outlet) (g.W.Outlet.contents l.outlet);
      steady : IsSteady (g.W.Outlet.last_failure l.initial.outlet) (g.W.Outlet.last_failure l.outlet);
    }
