use Rattle.std.proofs.Common.{length, take, ◌-◌, ◌≤◌}
use Rattle.std.specs.Io.KnownBytes.{Appends}
use Rattle.range_command.specs.Outlet.{IsSteady}
use Rattle.range_command.proofs.output.Output.write_whole.Given as goal

abbrev pub invariant-loop-at : goal.invariant-loop-at
invariant-loop-at g l =
    let contents = g.W.Outlet.contents in
    (l.at ≤ length l.text) × Appends (contents l.fn.self) (contents l.self) (take l.at l.text)
    × IsSteady (g.W.Outlet.last_failure l.fn.self) (g.W.Outlet.last_failure l.self)

abbrev pub decreases-loop-at : goal.decreases-loop-at
decreases-loop-at g l = length l.text - l.at
