use Rattle.std.proofs.Common.{◌≡◌, ◌+◌, ◌++◌, take, map}
use Rattle.range_lanes.specs.Lanes.{is_not_negative}
use Rattle.range_lanes.proofs.lanes.Lanes.flag_not_negative.Given as goal

abbrev pub invariant-loop-i : goal.invariant-loop-i
invariant-loop-i l = take (l.at + l.i) l.flags ≡ take l.at l.fn.flags ++ map is_not_negative (take l.i l.numbers)
