use Rattle.range_plane.proofs.Bounds.{abs_turn, turn_fits, abs_product, product_is, difference_is, product_fits}
use Rattle.std.proofs.Common.{◌-ℤ◌, ◌*ℤ◌, w64}
use Rattle.std.proofs.lemmas.Int.{to_z-of_z}
use Rattle.range_plane.specs.Plane.{turn, position}
use Rattle.range_plane.proofs.point.turn.Goals as goal

pub overflow_mul-result : goal.overflow_mul-result
overflow_mul-result c =
    let a = c.a.inside in
    let b = c.b.inside in
    let q = c.c.inside in
    rw (difference_is b.e a.e c.b.invariant.0 c.a.invariant.0, difference_is q.n a.n c.c.invariant.1 c.a.invariant.1)
    (product_fits ((b.e -ℤ a.e) *ℤ (q.n -ℤ a.n)) (abs_product b.e a.e q.n a.n c.b.invariant.0 c.a.invariant.0 c.c.invariant.1 c.a.invariant.1))

pub overflow_mul-result-2 : goal.overflow_mul-result-2
overflow_mul-result-2 c =
    let a = c.a.inside in
    let b = c.b.inside in
    let q = c.c.inside in
    rw (difference_is b.n a.n c.b.invariant.1 c.a.invariant.1, difference_is q.e a.e c.c.invariant.0 c.a.invariant.0)
    (product_fits ((b.n -ℤ a.n) *ℤ (q.e -ℤ a.e)) (abs_product b.n a.n q.e a.e c.b.invariant.1 c.a.invariant.1 c.c.invariant.0 c.a.invariant.0))

pub overflow_sub-result-5 : goal.overflow_sub-result-5
unfolding turn
overflow_sub-result-5 c =
    let a = c.a.inside in
    let b = c.b.inside in
    let q = c.c.inside in
    let first = abs_product b.e a.e q.n a.n c.b.invariant.0 c.a.invariant.0 c.c.invariant.1 c.a.invariant.1 in
    let second = abs_product b.n a.n q.e a.e c.b.invariant.1 c.a.invariant.1 c.c.invariant.0 c.a.invariant.0 in
    rw (
      difference_is b.e a.e c.b.invariant.0 c.a.invariant.0,
      difference_is q.n a.n c.c.invariant.1 c.a.invariant.1,
      difference_is b.n a.n c.b.invariant.1 c.a.invariant.1,
      difference_is q.e a.e c.c.invariant.0 c.a.invariant.0,
      product_is (b.e -ℤ a.e) (q.n -ℤ a.n) first,
      product_is (b.n -ℤ a.n) (q.e -ℤ a.e) second,
    )
    (turn_fits (position a.e a.n) (position b.e b.n) (position q.e q.n) c.a.invariant c.b.invariant c.c.invariant)

pub returns-clause-value : goal.returns-clause-value
unfolding turn
returns-clause-value c =
    let a = c.a.inside in
    let b = c.b.inside in
    let q = c.c.inside in
    let first = abs_product b.e a.e q.n a.n c.b.invariant.0 c.a.invariant.0 c.c.invariant.1 c.a.invariant.1 in
    let second = abs_product b.n a.n q.e a.e c.b.invariant.1 c.a.invariant.1 c.c.invariant.0 c.a.invariant.0 in
    rw (
      difference_is b.e a.e c.b.invariant.0 c.a.invariant.0,
      difference_is q.n a.n c.c.invariant.1 c.a.invariant.1,
      difference_is b.n a.n c.b.invariant.1 c.a.invariant.1,
      difference_is q.e a.e c.c.invariant.0 c.a.invariant.0,
      product_is (b.e -ℤ a.e) (q.n -ℤ a.n) first,
      product_is (b.n -ℤ a.n) (q.e -ℤ a.e) second,
    )
    (rw (← c.a.view_is, ← c.b.view_is, ← c.c.view_is)
    (to_z-of_z w64 (turn (position a.e a.n) (position b.e b.n) (position q.e q.n))
    (turn_fits (position a.e a.n) (position b.e b.n) (position q.e q.n) c.a.invariant c.b.invariant c.c.invariant)))

pub returns-clause-bound : goal.returns-clause-bound
unfolding turn
returns-clause-bound c =
    let a = c.a.inside in
    let b = c.b.inside in
    let q = c.c.inside in
    let first = abs_product b.e a.e q.n a.n c.b.invariant.0 c.a.invariant.0 c.c.invariant.1 c.a.invariant.1 in
    let second = abs_product b.n a.n q.e a.e c.b.invariant.1 c.a.invariant.1 c.c.invariant.0 c.a.invariant.0 in
    rw (
      difference_is b.e a.e c.b.invariant.0 c.a.invariant.0,
      difference_is q.n a.n c.c.invariant.1 c.a.invariant.1,
      difference_is b.n a.n c.b.invariant.1 c.a.invariant.1,
      difference_is q.e a.e c.c.invariant.0 c.a.invariant.0,
      product_is (b.e -ℤ a.e) (q.n -ℤ a.n) first,
      product_is (b.n -ℤ a.n) (q.e -ℤ a.e) second,
    )
    (rw (to_z-of_z w64 (turn (position a.e a.n) (position b.e b.n) (position q.e q.n))
    (turn_fits (position a.e a.n) (position b.e b.n) (position q.e q.n) c.a.invariant c.b.invariant c.c.invariant))
    (abs_turn (position a.e a.n) (position b.e b.n) (position q.e q.n) c.a.invariant c.b.invariant c.c.invariant))
