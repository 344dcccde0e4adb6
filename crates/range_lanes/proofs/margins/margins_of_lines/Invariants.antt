use Rattle.std.proofs.Common.{◌≡◌, map}
use Rattle.range_lanes.specs.Lanes.{is_not_negative}
use Rattle.range_lanes.proofs.LaneEdges.{is_left_of_first}
use Rattle.range_lanes.proofs.margins.margins_of_lines.Given as goal

abbrev pub invariant-loop-i : goal.invariant-loop-i
invariant-loop-i l = map is_not_negative l.margins ≡ map (is_left_of_first l.corners l.i) l.group
