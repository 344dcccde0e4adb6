use Rattle.std.proofs.Common.{◌≡◌, ◌*◌, take, pos, ◌≤ℤ◌}
use Rattle.range_plane.specs.Fix.{fix_limit}
use Rattle.range_plane.specs.Plane.{coordinate_limit}
use Rattle.range_lanes.specs.Totals.{total}
use Rattle.range_lanes.proofs.totals.plain_sum.Given as goal

abbrev pub invariant-loop-number : goal.invariant-loop-number
invariant-loop-number l =
    (l.sum ≡ total (take l.number-index l.numbers)) × (pos 0 ≤ℤ l.sum) × (l.sum ≤ℤ pos (fix_limit * coordinate_limit * l.number-index))
