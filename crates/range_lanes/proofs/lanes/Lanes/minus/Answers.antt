use Rattle.std.proofs.Common.{◌-ℤ◌}
use Rattle.range_plane.specs.Plane.{turn_limit}
use Rattle.range_lanes.proofs.Signed.{exact_difference, exact_are, exact_asks, exact_lanes}
use Rattle.range_lanes.proofs.lanes.Lanes.minus.Goals as goal

pub overflow_sub-result : goal.overflow_sub-result
overflow_sub-result c =
    exact_asks ◌-ℤ◌ turn_limit exact_difference c.self.inside.lanes c.other.inside.lanes (rw c.self.view_is c.requires.left)
    (rw c.other.view_is c.requires.right)

pub invariant_of-result : goal.invariant_of-result
invariant_of-result c =
    let left = rw (← c.self.view_is) at c.requires.left in
    let right = rw (← c.other.view_is) at c.requires.right in
    rw (exact_are ◌-ℤ◌ turn_limit exact_difference c.self.inside.lanes c.other.inside.lanes left right)
    (exact_lanes ◌-ℤ◌ turn_limit exact_difference c.self.inside.lanes c.other.inside.lanes left right c.self.invariant c.other.invariant)

pub returns : goal.returns
returns c =
    let left = rw (← c.self.view_is) at c.requires.left in
    let right = rw (← c.other.view_is) at c.requires.right in
    rw (← c.self.view_is, ← c.other.view_is) (exact_are ◌-ℤ◌ turn_limit exact_difference c.self.inside.lanes c.other.inside.lanes left right)
