-- Vectors of the plane, written as positions: the products `cross` and `dot`, the equations between them, and what their signs imply.
use Rattle.std.proofs.Common.{◌≡◌, ◌≢◌, refl, ap, ◌∙◌, ℤ, pos, ◌+ℤ◌, ◌-ℤ◌, ◌*ℤ◌, neg_ℤ, ◌≤ℤ◌, ◌<ℤ◌, [], ◌∷◌, arith}
use Rattle.std.proofs.lemmas.Int.{by_lt_z}
use lib.IntN.{zero-*ℤ}
use Rattle.range_plane.specs.ConvexCover.{scalar_product}
use Rattle.range_plane.specs.Plane.{Position, turn}
use Rattle.range_lemmas.proofs.Integers.{linear, at_least_product, nonneg_product, nonneg_square, square_naught, positive_product, nonpos_nonpos}
use Rattle.range_lemmas.proofs.Integers.{positive_factor, product_comm, neg_product}
use Rattle.range_lemmas.proofs.Ring.{Expr, var, num, ◌⊕◌, ◌⊖◌, ◌⊗◌, ring}

-- twice the signed area between u and v: positive where v is on the left of u
unfoldable pub cross : Position → Position → ℤ
cross u v = u.e *ℤ v.n -ℤ u.n *ℤ v.e

-- positive where u and v point the same way
unfoldable pub dot : Position → Position → ℤ
dot u v = u.e *ℤ v.e +ℤ u.n *ℤ v.n

-- the vector from q to a
unfoldable pub from : Position → Position → Position
from q a = record { e = a.e -ℤ q.e; n = a.n -ℤ q.n }

-- the sum of u turned by a quarter to the left and v turned by a quarter to the right
unfoldable pub inward : Position → Position → Position
inward u v = record { e = v.n -ℤ u.n; n = u.e -ℤ v.e }

cross_of : Expr → Expr → Expr → Expr → Expr
cross_of a a' b b' = a ⊗ b' ⊖ a' ⊗ b

dot_of : Expr → Expr → Expr → Expr → Expr
dot_of a a' b b' = a ⊗ b ⊕ a' ⊗ b'

-- the cross product the other way round is negated
pub cross_flip : (u v : Position) → cross v u ≡ neg_ℤ (cross u v)
unfolding cross cross_of
cross_flip u v =
    let e : cross v u ≡ pos 0 -ℤ cross u v = ring (u.e ∷ u.n ∷ v.e ∷ v.n ∷ []) (cross_of (var 2) (var 3) (var 0) (var 1))
    (num (pos 0) ⊖ cross_of (var 0) (var 1) (var 2) (var 3)) tt in
    omega (arith, linear)

-- the cross product of a vector with itself is 0
pub cross_self : (u : Position) → cross u u ≡ pos 0
unfolding cross cross_of
cross_self u = ring (u.e ∷ u.n ∷ []) (cross_of (var 0) (var 1) (var 0) (var 1)) (num (pos 0)) tt

-- x lies inward where it is on the left of u and on the right of v
pub dot_inward : (u v x : Position) → dot (inward u v) x ≡ cross u x +ℤ cross x v
unfolding cross cross_of dot dot_of inward
dot_inward u v x =
    ring (u.e ∷ u.n ∷ v.e ∷ v.n ∷ x.e ∷ x.n ∷ []) (dot_of (var 3 ⊖ var 1) (var 0 ⊖ var 2) (var 4) (var 5))
    (cross_of (var 0) (var 1) (var 4) (var 5) ⊕ cross_of (var 4) (var 5) (var 2) (var 3)) tt

-- three vectors of the plane depend on each other, by their areas
pub cramer : (a b c d : Position) → cross a b *ℤ dot d c +ℤ cross b c *ℤ dot d a +ℤ cross c a *ℤ dot d b ≡ pos 0
unfolding cross cross_of dot dot_of
cramer p q r s =
    let a = var 0 in let a' = var 1 in let b = var 2 in let b' = var 3 in let c = var 4 in let c' = var 5 in let d = var 6 in let d' = var 7 in
    ring (p.e ∷ p.n ∷ q.e ∷ q.n ∷ r.e ∷ r.n ∷ s.e ∷ s.n ∷ []) (cross_of a a' b b' ⊗ dot_of d d' c c' ⊕ cross_of b b' c c' ⊗ dot_of d d' a a' ⊕ cross_of c c' a
    a' ⊗ dot_of d d' b b') (num (pos 0)) tt

-- a product with u, by the parts along it and across it
pub along : (u y d : Position) → dot u y *ℤ dot d u ≡ dot u u *ℤ dot d y -ℤ cross u y *ℤ cross u d
unfolding cross cross_of dot dot_of
along p q r =
    let u = var 0 in let u' = var 1 in let y = var 2 in let y' = var 3 in let d = var 4 in let d' = var 5 in
    ring (p.e ∷ p.n ∷ q.e ∷ q.n ∷ r.e ∷ r.n ∷ []) (dot_of u u' y y' ⊗ dot_of d d' u u')
    (dot_of u u' u u' ⊗ dot_of d d' y y' ⊖ cross_of u u' y y' ⊗ cross_of u u' d d') tt

pub lagrange : (d u : Position) → dot d u *ℤ dot d u +ℤ cross d u *ℤ cross d u ≡ dot d d *ℤ dot u u
unfolding cross cross_of dot dot_of
lagrange p q =
    let d = var 0 in let d' = var 1 in let u = var 2 in let u' = var 3 in
    ring (p.e ∷ p.n ∷ q.e ∷ q.n ∷ []) (dot_of d d' u u' ⊗ dot_of d d' u u' ⊕ cross_of d d' u u' ⊗ cross_of d d' u u') (dot_of d d' d d' ⊗ dot_of u u' u u') tt

-- ---- a turn in the vectors from q
-- a turn is the sum of the three cross products of its points, one after the other, seen from any point q
pub turn_from : (q a b c : Position) → turn a b c ≡ cross (from q a) (from q b) +ℤ cross (from q b) (from q c) +ℤ cross (from q c) (from q a)
unfolding cross cross_of from turn
turn_from s p q r =
    let a = var 0 in let a' = var 1 in let b = var 2 in let b' = var 3 in let c = var 4 in let c' = var 5 in let o = var 6 in let o' = var 7 in
    ring (p.e ∷ p.n ∷ q.e ∷ q.n ∷ r.e ∷ r.n ∷ s.e ∷ s.n ∷ []) (cross_of (b ⊖ a) (b' ⊖ a') (c ⊖ a) (c' ⊖ a'))
    (cross_of (a ⊖ o) (a' ⊖ o') (b ⊖ o) (b' ⊖ o') ⊕ cross_of (b ⊖ o) (b' ⊖ o') (c ⊖ o) (c' ⊖ o') ⊕ cross_of (c ⊖ o) (c' ⊖ o') (a ⊖ o) (a' ⊖ o')) tt

-- the turn from a by b to q is the cross product of a and b as q sees them
pub turn_at : (q a b : Position) → turn a b q ≡ cross (from q a) (from q b)
unfolding cross cross_of from turn
turn_at r p q =
    let a = var 0 in let a' = var 1 in let b = var 2 in let b' = var 3 in let c = var 4 in let c' = var 5 in
    ring (p.e ∷ p.n ∷ q.e ∷ q.n ∷ r.e ∷ r.n ∷ []) (cross_of (b ⊖ a) (b' ⊖ a') (c ⊖ a) (c' ⊖ a')) (cross_of (a ⊖ c) (a' ⊖ c') (b ⊖ c) (b' ⊖ c')) tt

-- the scalar product at q is that of the vectors from q
pub scalar_product_is : (q a b : Position) → scalar_product q a b ≡ dot (from q a) (from q b)
unfolding scalar_product dot from
scalar_product_is q a b = refl

-- ---- signs
-- no vector has a negative scalar product with itself
pub nonneg_norm : (u : Position) → pos 0 ≤ℤ dot u u
unfolding dot
nonneg_norm u = omega (arith, linear, nonneg_square u.e, nonneg_square u.n)

-- a vector that points ahead is not 0
pub positive_norm : (d u : Position) → pos 0 <ℤ dot d u → pos 0 <ℤ dot u u
positive_norm d u h =
    positive_factor (dot d d) (dot u u) (nonneg_norm d) (omega (
      arith,
      linear,
      lagrange d u,
      positive_product (dot d u) (dot d u) h h,
      nonneg_square (cross d u),
    ))

-- a vector within the cone from u to v is ahead where u and v are
pub ahead_within : (u v d y : Position) → pos 0 <ℤ dot d u → pos 0 <ℤ dot d v → pos 0 ≤ℤ cross u v → pos 0 ≤ℤ cross u y → pos 0 ≤ℤ cross y v
    → pos 0 <ℤ (cross u y +ℤ cross y v) → pos 0 <ℤ dot d y
ahead_within u v d y hu hv huv huy hyv hs =
    positive_factor (cross u v) (dot d y) huv (omega (
      arith,
      linear,
      cramer u v y d,
      cross_flip v y,
      cross_flip u y,
      at_least_product (cross u y) (dot d v) huy hv,
      at_least_product (cross y v) (dot d u) hyv hu,
      product_comm (cross v y) (dot d u),
      product_comm (cross y v) (dot d u),
      neg_product (dot d u) (cross v y),
      ap (λ (z : ℤ). dot d u *ℤ z) (cross_flip v y),
      product_comm (cross y u) (dot d v),
      product_comm (cross u y) (dot d v),
      neg_product (dot d v) (cross u y),
      ap (λ (z : ℤ). dot d v *ℤ z) (cross_flip u y),
    ))

-- a vector past one side of a cone: the whole cone lies to its left, or to its right
pub past : (k p q a b a' b' x y : ℤ) → k *ℤ p ≡ a *ℤ x +ℤ b *ℤ y → k *ℤ q ≡ a' *ℤ x +ℤ b' *ℤ y → pos 0 <ℤ p → pos 0 <ℤ q → pos 0 <ℤ a → pos 0 <ℤ a' → pos 0 <ℤ x
    → pos 0 ≤ℤ b → b' ≤ℤ pos 0 → pos 0 <ℤ k
past k p q a b a' b' x y e f hp hq ha ha' hx hb hb' =
    by_lt_z y (pos 0)
    (λ hy. positive_factor q k (omega (arith, linear)) (omega (
      arith,
      linear,
      product_comm q k,
      positive_product a' x ha' hx,
      nonpos_nonpos b' y hb' (omega (arith, linear)),
    )))
    (λ hy. positive_factor p k (omega (arith, linear)) (omega (arith, linear, product_comm p k, positive_product a x ha hx, nonneg_product b y hb hy)))

-- which side of w the vector z is on, by a third vector t
pub across : (w z t d : Position) → cross w z *ℤ dot d t ≡ cross w t *ℤ dot d z +ℤ cross t z *ℤ dot d w
unfolding cross cross_of dot dot_of
across p q r s =
    let w = var 0 in let w' = var 1 in let z = var 2 in let z' = var 3 in let t = var 4 in let t' = var 5 in let d = var 6 in let d' = var 7 in
    ring (p.e ∷ p.n ∷ q.e ∷ q.n ∷ r.e ∷ r.n ∷ s.e ∷ s.n ∷ []) (cross_of w w' z z' ⊗ dot_of d d' t t')
    (cross_of w w' t t' ⊗ dot_of d d' z z' ⊕ cross_of t t' z z' ⊗ dot_of d d' w w') tt

across_back : (w z t d : Position) → cross z w *ℤ dot d t ≡ cross t w *ℤ dot d z +ℤ cross z t *ℤ dot d w
across_back w z t d = omega (arith, linear, across z w t d)

-- w lies to the right of u and v, which enclose z, and so to the right of z
pub right_of : (u v d w z : Position) → pos 0 <ℤ cross w u → pos 0 <ℤ cross w v → pos 0 <ℤ dot d u → pos 0 <ℤ dot d v → pos 0 <ℤ dot d z → pos 0 ≤ℤ cross u z
    → pos 0 ≤ℤ cross z v → pos 0 <ℤ cross w z
right_of u v d w z wu wv du dv dz uz zv =
    past (cross w z) (dot d u) (dot d v) (cross w u) (cross u z) (cross w v) (cross v z) (dot d z) (dot d w) (across w z u d) (across w z v d) du dv wu wv dz uz
    (omega (arith, linear, cross_flip v z))

-- w lies to the left of u and v, which enclose z, and so to the left of z
pub left_of : (u v d w z : Position) → pos 0 <ℤ cross u w → pos 0 <ℤ cross v w → pos 0 <ℤ dot d u → pos 0 <ℤ dot d v → pos 0 <ℤ dot d z → pos 0 ≤ℤ cross u z
    → pos 0 ≤ℤ cross z v → pos 0 <ℤ cross z w
left_of u v d w z uw vw du dv dz uz zv =
    past (cross z w) (dot d v) (dot d u) (cross v w) (cross z v) (cross u w) (cross z u) (dot d z) (dot d w) (across_back w z v d)
    (across_back w z u d) dv du vw uw dz zv (omega (arith, linear, cross_flip u z))

-- a vector along u that faces it
pub ahead_along : (u d y : Position) → cross u y ≡ pos 0 → pos 0 <ℤ dot u y → pos 0 <ℤ dot d u → pos 0 <ℤ dot d y
ahead_along u d y flat same du =
    positive_factor (dot u u) (dot d y) (nonneg_norm u) (omega (
      arith,
      linear,
      along u y d,
      ap (λ (z : ℤ). z *ℤ cross u d) flat,
      zero-*ℤ (cross u d),
      positive_product (dot u y) (dot d u) same du,
    ))

-- ---- vectors between points
-- how far x is past t along d is how far it is past q, less how far t is past q
pub dot_from : (d q t x : Position) → dot d (from t x) ≡ dot d (from q x) -ℤ dot d (from q t)
unfolding dot dot_of from
dot_from s o p r =
    let d = var 0 in let d' = var 1 in let q = var 2 in let q' = var 3 in let t = var 4 in let t' = var 5 in let x = var 6 in let x' = var 7 in
    ring (s.e ∷ s.n ∷ o.e ∷ o.n ∷ p.e ∷ p.n ∷ r.e ∷ r.n ∷ []) (dot_of d d' (x ⊖ t) (x' ⊖ t')) (dot_of d d' (x ⊖ q) (x' ⊖ q') ⊖ dot_of d d' (t ⊖ q) (t' ⊖ q')) tt

-- k times d, and w
unfoldable pub tilted : ℤ → Position → Position → Position
tilted k d w = record { e = k *ℤ d.e +ℤ w.e; n = k *ℤ d.n +ℤ w.n }

-- the scalar product with k times d and w is k times that with d, and that with w
pub dot_tilted : (k : ℤ) (d w z : Position) → dot (tilted k d w) z ≡ k *ℤ dot d z +ℤ dot w z
unfolding dot dot_of tilted
dot_tilted k d w z =
    ring (k ∷ d.e ∷ d.n ∷ w.e ∷ w.n ∷ z.e ∷ z.n ∷ []) (dot_of (var 0 ⊗ var 1 ⊕ var 3) (var 0 ⊗ var 2 ⊕ var 4) (var 5) (var 6))
    (var 0 ⊗ dot_of (var 1) (var 2) (var 5) (var 6) ⊕ dot_of (var 3) (var 4) (var 5) (var 6)) tt

-- the vector from a point to itself has the scalar product 0 with each
pub dot_origin : (q d : Position) → dot d (from q q) ≡ pos 0
unfolding dot dot_of from
dot_origin q d = ring (q.e ∷ q.n ∷ d.e ∷ d.n ∷ []) (dot_of (var 2) (var 3) (var 0 ⊖ var 0) (var 1 ⊖ var 1)) (num (pos 0)) tt

-- and the cross product 0
pub cross_origin : (q d : Position) → cross (from q q) d ≡ pos 0
unfolding cross cross_of from
cross_origin q d = ring (q.e ∷ q.n ∷ d.e ∷ d.n ∷ []) (cross_of (var 0 ⊖ var 0) (var 1 ⊖ var 1) (var 2) (var 3)) (num (pos 0)) tt

-- points that differ have a distance
pub positive_apart : (p q : Position) → p ≢ q → pos 0 <ℤ dot (from p q) (from p q)
unfolding dot from
positive_apart p q a =
    by_lt_z (pos 0) (dot (from p q) (from p q)) (λ h. h)
    (λ h. absurd (a (same (square_naught (q.e -ℤ p.e) (omega (arith, linear, nonneg_square (q.e -ℤ p.e), nonneg_square (q.n -ℤ p.n))))
    (square_naught (q.n -ℤ p.n) (omega (arith, linear, nonneg_square (q.e -ℤ p.e), nonneg_square (q.n -ℤ p.n)))))))
  where
    same : q.e -ℤ p.e ≡ pos 0 → q.n -ℤ p.n ≡ pos 0 → p ≡ q
    same h k =
        let e : p.e ≡ q.e = omega (arith, linear) in
        let n : p.n ≡ q.n = omega (arith, linear) in
        λ i. record { e = e i; n = n i }

-- ---- turns with their points in another order
turn_of : Expr → Expr → Expr → Expr → Expr → Expr → Expr
turn_of a a' b b' c c' = (b ⊖ a) ⊗ (c' ⊖ a') ⊖ (b' ⊖ a') ⊗ (c ⊖ a)

-- a turn changes its sign where two points change places
pub turn_swap : (a b c : Position) → turn a b c +ℤ turn a c b ≡ pos 0
unfolding turn turn_of
turn_swap a b c = ring (a.e ∷ a.n ∷ b.e ∷ b.n ∷ c.e ∷ c.n ∷ []) (turn_of (var 0) (var 1) (var 2) (var 3) (var 4) (var 5) ⊕ turn_of (var 0) (var 1) (var 4)
    (var 5) (var 2) (var 3)) (num (pos 0)) tt

-- a turn may begin at any of its points
pub turn_cycle : (a b c : Position) → turn b c a ≡ turn a b c
unfolding turn turn_of
turn_cycle a b c = ring (a.e ∷ a.n ∷ b.e ∷ b.n ∷ c.e ∷ c.n ∷ []) (turn_of (var 2) (var 3) (var 4) (var 5) (var 0) (var 1))
    (turn_of (var 0) (var 1) (var 2) (var 3) (var 4) (var 5)) tt

-- a lies on the straight way from a to b
pub turn_self : (a b : Position) → turn a b a ≡ pos 0
unfolding turn turn_of
turn_self a b = ring (a.e ∷ a.n ∷ b.e ∷ b.n ∷ []) (turn_of (var 0) (var 1) (var 2) (var 3) (var 0) (var 1)) (num (pos 0)) tt

-- the direction to the left of the edge from a to b
unfoldable pub leftward : Position → Position → Position
leftward a b = record { e = a.n -ℤ b.n; n = b.e -ℤ a.e }

-- how much further to the left of the line x lies than q, by two turns
pub dot_leftward : (a b q x : Position) → dot (leftward a b) (from q x) ≡ turn a b x -ℤ turn a b q
unfolding turn turn_of dot dot_of from leftward
dot_leftward a b q x =
    ring (a.e ∷ a.n ∷ b.e ∷ b.n ∷ q.e ∷ q.n ∷ x.e ∷ x.n ∷ []) (dot_of (var 1 ⊖ var 3) (var 2 ⊖ var 0) (var 6 ⊖ var 4) (var 7 ⊖ var 5))
    (turn_of (var 0) (var 1) (var 2) (var 3) (var 6) (var 7) ⊖ turn_of (var 0) (var 1) (var 2) (var 3) (var 4) (var 5)) tt

-- b lies on the straight way from a to b
pub turn_end : (a b : Position) → turn a b b ≡ pos 0
turn_end a b = turn_cycle b a b ∙ turn_self b a

-- a turn at c in the vectors from c
pub turn_round : (c x y : Position) → turn c x y ≡ cross (from c x) (from c y)
unfolding turn cross from
turn_round c x y = refl

-- the scalar product of two ways from x, by ways from c
pub scalar_product_round : (c x y : Position) → scalar_product x c y ≡ dot (from c x) (from c x) -ℤ dot (from c x) (from c y)
unfolding scalar_product dot dot_of from
scalar_product_round c x y =
    ring (c.e ∷ c.n ∷ x.e ∷ x.n ∷ y.e ∷ y.n ∷ []) (dot_of (var 0 ⊖ var 2) (var 1 ⊖ var 3) (var 4 ⊖ var 2) (var 5 ⊖ var 3))
    (dot_of (var 2 ⊖ var 0) (var 3 ⊖ var 1) (var 2 ⊖ var 0) (var 3 ⊖ var 1) ⊖ dot_of (var 2 ⊖ var 0) (var 3 ⊖ var 1) (var 4 ⊖ var 0) (var 5 ⊖ var 1)) tt

-- ---- the direction backwards
unfoldable pub reverse_of : Position → Position
reverse_of d = record { e = neg_ℤ d.e; n = neg_ℤ d.n }

-- b is past a, backwards along d, by as much as a is past b along d
pub dot_reverse : (d a b : Position) → dot (reverse_of d) (from a b) ≡ dot d (from b a)
unfolding dot from reverse_of
dot_reverse d a b =
    omega (
      arith,
      linear,
      product_comm (neg_ℤ d.e) (b.e -ℤ a.e),
      neg_product (b.e -ℤ a.e) d.e,
      turned d.e a.e b.e,
      product_comm (neg_ℤ d.n) (b.n -ℤ a.n),
      neg_product (b.n -ℤ a.n) d.n,
      turned d.n a.n b.n,
    )
  where
    turned : (x y z : ℤ) → x *ℤ (y -ℤ z) +ℤ (z -ℤ y) *ℤ x ≡ pos 0
    turned x y z = ring (x ∷ y ∷ z ∷ []) (var 0 ⊗ (var 1 ⊖ var 2) ⊕ (var 2 ⊖ var 1) ⊗ var 0) (num (pos 0)) tt

-- ---- sums of products of more points
-- the product of two crosses by the dots between their vectors
pub cross_by_dots : (f d u v : Position) → dot f u *ℤ dot d v -ℤ dot f v *ℤ dot d u ≡ cross f d *ℤ cross u v
unfolding cross cross_of dot dot_of
cross_by_dots p q r s =
    let f = var 0 in let f' = var 1 in let d = var 2 in let d' = var 3 in let u = var 4 in let u' = var 5 in let v = var 6 in let v' = var 7 in
    ring (p.e ∷ p.n ∷ q.e ∷ q.n ∷ r.e ∷ r.n ∷ s.e ∷ s.n ∷ []) (dot_of f f' u u' ⊗ dot_of d d' v v' ⊖ dot_of f f' v v' ⊗ dot_of d d' u u')
    (cross_of f f' d d' ⊗ cross_of u u' v v') tt

-- how far three points lie past a fourth, by the turns between them
pub turn_four : (w a b c d : Position) → turn a c d *ℤ dot w (from c b) ≡ turn b c d *ℤ dot w (from c a) -ℤ turn a b c *ℤ dot w (from c d)
unfolding turn turn_of dot dot_of from
turn_four v o p q r =
    let w = var 0 in let w' = var 1 in let a = var 2 in let a' = var 3 in let b = var 4 in let b' = var 5 in let c = var 6 in let c' = var 7 in let d = var 8 in
    let d' = var 9 in
    ring (v.e ∷ v.n ∷ o.e ∷ o.n ∷ p.e ∷ p.n ∷ q.e ∷ q.n ∷ r.e ∷ r.n ∷ [])
    (turn_of a a' c c' d d' ⊗ dot_of w w' (b ⊖ c) (b' ⊖ c'))
    (turn_of b b' c c' d d' ⊗ dot_of w w' (a ⊖ c) (a' ⊖ c') ⊖ turn_of a a' b b' c c' ⊗ dot_of w w' (d ⊖ c) (d' ⊖ c')) tt
