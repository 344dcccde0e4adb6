use Rattle.range_plane.proofs.Bounds.{scalar_product_fits, abs_product, product_is, difference_is, product_fits}
use Rattle.std.proofs.Common.{◌-ℤ◌, ◌*ℤ◌, w64}
use Rattle.std.proofs.lemmas.Int.{to_z-of_z}
use Rattle.range_plane.specs.Plane.{position}
use Rattle.range_plane.specs.ConvexCover.{scalar_product}
use Rattle.range_plane.proofs.point.scalar_product.Goals as goal

pub overflow_mul-result : goal.overflow_mul-result
overflow_mul-result c =
    let a = c.a.inside in
    let b = c.b.inside in
    let q = c.q.inside in
    rw (difference_is a.e q.e c.a.invariant.0 c.q.invariant.0, difference_is b.e q.e c.b.invariant.0 c.q.invariant.0)
    (product_fits ((a.e -ℤ q.e) *ℤ (b.e -ℤ q.e)) (abs_product a.e q.e b.e q.e c.a.invariant.0 c.q.invariant.0 c.b.invariant.0 c.q.invariant.0))

pub overflow_mul-result-2 : goal.overflow_mul-result-2
overflow_mul-result-2 c =
    let a = c.a.inside in
    let b = c.b.inside in
    let q = c.q.inside in
    rw (difference_is a.n q.n c.a.invariant.1 c.q.invariant.1, difference_is b.n q.n c.b.invariant.1 c.q.invariant.1)
    (product_fits ((a.n -ℤ q.n) *ℤ (b.n -ℤ q.n)) (abs_product a.n q.n b.n q.n c.a.invariant.1 c.q.invariant.1 c.b.invariant.1 c.q.invariant.1))

pub overflow_add-result : goal.overflow_add-result
unfolding scalar_product
overflow_add-result c =
    let a = c.a.inside in
    let b = c.b.inside in
    let q = c.q.inside in
    let first = abs_product a.e q.e b.e q.e c.a.invariant.0 c.q.invariant.0 c.b.invariant.0 c.q.invariant.0 in
    let second = abs_product a.n q.n b.n q.n c.a.invariant.1 c.q.invariant.1 c.b.invariant.1 c.q.invariant.1 in
    rw (
      difference_is a.e q.e c.a.invariant.0 c.q.invariant.0,
      difference_is b.e q.e c.b.invariant.0 c.q.invariant.0,
      difference_is a.n q.n c.a.invariant.1 c.q.invariant.1,
      difference_is b.n q.n c.b.invariant.1 c.q.invariant.1,
      product_is (a.e -ℤ q.e) (b.e -ℤ q.e) first,
      product_is (a.n -ℤ q.n) (b.n -ℤ q.n) second,
    )
    (scalar_product_fits (position q.e q.n) (position a.e a.n) (position b.e b.n) c.q.invariant c.a.invariant c.b.invariant)

pub returns : goal.returns
unfolding scalar_product
returns c =
    let a = c.a.inside in
    let b = c.b.inside in
    let q = c.q.inside in
    let first = abs_product a.e q.e b.e q.e c.a.invariant.0 c.q.invariant.0 c.b.invariant.0 c.q.invariant.0 in
    let second = abs_product a.n q.n b.n q.n c.a.invariant.1 c.q.invariant.1 c.b.invariant.1 c.q.invariant.1 in
    rw (
      difference_is a.e q.e c.a.invariant.0 c.q.invariant.0,
      difference_is b.e q.e c.b.invariant.0 c.q.invariant.0,
      difference_is a.n q.n c.a.invariant.1 c.q.invariant.1,
      difference_is b.n q.n c.b.invariant.1 c.q.invariant.1,
      product_is (a.e -ℤ q.e) (b.e -ℤ q.e) first,
      product_is (a.n -ℤ q.n) (b.n -ℤ q.n) second,
    )
    (rw (← c.a.view_is, ← c.b.view_is, ← c.q.view_is)
    (to_z-of_z w64 (scalar_product (position q.e q.n) (position a.e a.n) (position b.e b.n))
    (scalar_product_fits (position q.e q.n) (position a.e a.n) (position b.e b.n) c.q.invariant c.a.invariant c.b.invariant)))
