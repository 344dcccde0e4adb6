use Rattle.std.proofs.Common.{◌*ℤ◌, ◌∙◌, sym, subst}
use lib.Lanes.{Each1}
use Rattle.range_plane.specs.Plane.{coordinate_limit}
use Rattle.range_lanes.specs.Lanes.{IsBounded}
use Rattle.range_lanes.proofs.Signed.{exact_are, exact_asks, exact_lanes, exact_product}
use Rattle.range_lanes.proofs.lanes.Lanes.times.Goals as goal

pub overflow_mul-result : goal.overflow_mul-result
overflow_mul-result c =
    let left = subst (Each1 (IsBounded coordinate_limit)) (sym (c.a.view_is ∙ c.narrow-a.ensures)) c.requires.left in
    let right = subst (Each1 (IsBounded coordinate_limit)) (sym (c.b.view_is ∙ c.narrow-b.ensures)) c.requires.right in
    exact_asks ◌*ℤ◌ coordinate_limit exact_product c.a.inside.lanes c.b.inside.lanes left right

pub invariant_of-result : goal.invariant_of-result
invariant_of-result c =
    let left = subst (Each1 (IsBounded coordinate_limit)) (sym (c.a.view_is ∙ c.narrow-a.ensures)) c.requires.left in
    let right = subst (Each1 (IsBounded coordinate_limit)) (sym (c.b.view_is ∙ c.narrow-b.ensures)) c.requires.right in
    rw (exact_are ◌*ℤ◌ coordinate_limit exact_product c.a.inside.lanes c.b.inside.lanes left right)
    (exact_lanes ◌*ℤ◌ coordinate_limit exact_product c.a.inside.lanes c.b.inside.lanes left right c.a.invariant c.b.invariant)

pub returns : goal.returns
returns c =
    let left = subst (Each1 (IsBounded coordinate_limit)) (sym (c.a.view_is ∙ c.narrow-a.ensures)) c.requires.left in
    let right = subst (Each1 (IsBounded coordinate_limit)) (sym (c.b.view_is ∙ c.narrow-b.ensures)) c.requires.right in
    rw (← (c.a.view_is ∙ c.narrow-a.ensures), ← (c.b.view_is ∙ c.narrow-b.ensures))
    (exact_are ◌*ℤ◌ coordinate_limit exact_product c.a.inside.lanes c.b.inside.lanes left right)
