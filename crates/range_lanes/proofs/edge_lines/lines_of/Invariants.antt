use Rattle.std.proofs.Common.{◌≡◌, length}
use Rattle.range_lanes.specs.EdgeLines.{corner_before}
use Rattle.range_lanes.proofs.EdgeSides.{AreFirstLines}
use Rattle.range_lanes.proofs.edge_lines.lines_of.Given as goal

abbrev pub invariant-loop-i : goal.invariant-loop-i
invariant-loop-i l = record {
  from : l.from ≡ corner_before l.corners l.i;
  size : length l.lines ≡ 36;
  lines : AreFirstLines l.corners l.lines l.i;
}
