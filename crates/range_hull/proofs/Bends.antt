-- How the bends of four and five points hang together, and what their signs imply.
use Rattle.std.proofs.Common.{◌≡◌, ap, ◌∙◌, ℤ, pos, neg_ℤ, ◌+ℤ◌, ◌-ℤ◌, ◌*ℤ◌, ◌≤ℤ◌, ◌<ℤ◌, [], ◌∷◌, arith}
use Rattle.std.proofs.lemmas.Int.{by_lt_z}
use Rattle.range_plane.specs.Order.{rank, rank_base}
use Rattle.range_plane.specs.Plane.{Position, turn}
use Rattle.range_lemmas.proofs.Integers.{linear, product_comm, neg_product, nonneg_product, positive_product, positive_factor}
use Rattle.range_lemmas.proofs.Ring.{Expr, var, num, ◌⊕◌, ◌⊖◌, ◌⊗◌, ring}
use Rattle.range_hull.specs.declared.side.Side.{Side}
use Rattle.range_hull.specs.declared.side.Side.TheVariants.{Lower, Upper}
use Rattle.range_hull.specs.Chain.{bend}

-- the turn of three positions and the rank of one, as polynomials in their coordinates
unfoldable pub turn_of : Expr → Expr → Expr → Expr → Expr → Expr → Expr
turn_of a a' b b' c c' = (b ⊖ a) ⊗ (c' ⊖ a') ⊖ (b' ⊖ a') ⊗ (c ⊖ a)

unfoldable pub rank_of : Expr → Expr → Expr
rank_of a a' = a ⊗ num (pos rank_base) ⊕ a'

turn_three : (a b c d : Position) → turn a b d *ℤ (rank c -ℤ rank a) ≡ turn a b c *ℤ (rank d -ℤ rank a) +ℤ turn a c d *ℤ (rank b -ℤ rank a)
unfolding turn rank turn_of rank_of
turn_three p q r s =
    let a = var 0 in let a' = var 1 in let b = var 2 in let b' = var 3 in let c = var 4 in let c' = var 5 in let d = var 6 in let d' = var 7 in
    ring (p.e ∷ p.n ∷ q.e ∷ q.n ∷ r.e ∷ r.n ∷ s.e ∷ s.n ∷ [])
    (turn_of a a' b b' d d' ⊗ (rank_of c c' ⊖ rank_of a a'))
    (turn_of a a' b b' c c' ⊗ (rank_of d d' ⊖ rank_of a a') ⊕ turn_of a a' c c' d d' ⊗ (rank_of b b' ⊖ rank_of a a')) tt

turn_lift : (w p a b q : Position) → turn w p q *ℤ (rank b -ℤ rank a) ≡ turn w p a *ℤ (rank b -ℤ rank q) +ℤ turn w p b *ℤ (rank q -ℤ rank a) +ℤ turn a b q *ℤ
    (rank p -ℤ rank w)
unfolding turn rank turn_of rank_of
turn_lift o p q r s =
    let w = var 0 in let w' = var 1 in let x = var 2 in let x' = var 3 in let a = var 4 in let a' = var 5 in let b = var 6 in let b' = var 7 in let c = var 8 in
    let c' = var 9 in
    ring (o.e ∷ o.n ∷ p.e ∷ p.n ∷ q.e ∷ q.n ∷ r.e ∷ r.n ∷ s.e ∷ s.n ∷ [])
    (turn_of w w' x x' c c' ⊗ (rank_of b b' ⊖ rank_of a a'))
    (turn_of w w' x x' a a' ⊗ (rank_of b b' ⊖ rank_of c c') ⊕ turn_of w w' x x' b b' ⊗ (rank_of c c' ⊖ rank_of a a') ⊕ turn_of a a' b b' c c' ⊗
    (rank_of x x' ⊖ rank_of w w')) tt

pub neg_times : (a b : ℤ) → neg_ℤ a *ℤ b ≡ neg_ℤ (a *ℤ b)
neg_times a b = omega (arith, linear, neg_product b a, product_comm (neg_ℤ a) b, product_comm b a)

pub bend_three : (side : Side) (a b c d : Position) → bend side a b d *ℤ (rank c -ℤ rank a) ≡ bend side a b c *ℤ (rank d -ℤ rank a) +ℤ bend side a c d *ℤ
    (rank b -ℤ rank a)
bend_three Lower a b c d = turn_three a b c d
bend_three Upper a b c d =
    omega (
      arith,
      linear,
      turn_three a b c d,
      neg_times (turn a b d) (rank c -ℤ rank a),
      neg_times (turn a b c) (rank d -ℤ rank a),
      neg_times (turn a c d) (rank b -ℤ rank a),
    )

-- how far w, p bend at q, by how far they bend at a and at b, and a, b at q
pub bend_lift : (side : Side) (w p a b q : Position) → bend side w p q *ℤ (rank b -ℤ rank a) ≡ bend side w p a *ℤ (rank b -ℤ rank q) +ℤ bend side w p b *ℤ
    (rank q -ℤ rank a) +ℤ bend side a b q *ℤ (rank p -ℤ rank w)
bend_lift Lower w p a b q = turn_lift w p a b q
bend_lift Upper w p a b q =
    omega (
      arith,
      linear,
      turn_lift w p a b q,
      neg_times (turn w p q) (rank b -ℤ rank a),
      neg_times (turn w p a) (rank b -ℤ rank q),
      neg_times (turn w p b) (rank q -ℤ rank a),
      neg_times (turn a b q) (rank p -ℤ rank w),
    )

-- ---- the points in another order
turn_rotate : (a b c : Position) → turn a b c ≡ turn b c a
unfolding turn turn_of
turn_rotate a b c = ring (a.e ∷ a.n ∷ b.e ∷ b.n ∷ c.e ∷ c.n ∷ []) (turn_of (var 0) (var 1) (var 2) (var 3) (var 4) (var 5))
    (turn_of (var 2) (var 3) (var 4) (var 5) (var 0) (var 1)) tt

turn_flip : (a b c : Position) → turn a b c ≡ pos 0 -ℤ turn a c b
unfolding turn turn_of
turn_flip a b c = ring (a.e ∷ a.n ∷ b.e ∷ b.n ∷ c.e ∷ c.n ∷ []) (turn_of (var 0) (var 1) (var 2) (var 3) (var 4) (var 5))
    (num (pos 0) ⊖ turn_of (var 0) (var 1) (var 4) (var 5) (var 2) (var 3)) tt

turn_back : (a b : Position) → turn a b a ≡ pos 0
unfolding turn turn_of
turn_back a b = ring (a.e ∷ a.n ∷ b.e ∷ b.n ∷ []) (turn_of (var 0) (var 1) (var 2) (var 3) (var 0) (var 1)) (num (pos 0)) tt

-- three points bend the same when they are begun at the second
pub bend_rotate : (side : Side) (a b c : Position) → bend side a b c ≡ bend side b c a
bend_rotate Lower a b c = turn_rotate a b c
bend_rotate Upper a b c = ap neg_ℤ (turn_rotate a b c)

-- with the last two points exchanged the bend changes its sign
pub bend_flip : (side : Side) (a b c : Position) → bend side a b c ≡ pos 0 -ℤ bend side a c b
bend_flip Lower a b c = turn_flip a b c
bend_flip Upper a b c = omega (arith, linear, turn_flip a b c)

-- the way to b and back to a does not bend
pub bend_back : (side : Side) (a b : Position) → bend side a b a ≡ pos 0
bend_back Lower a b = turn_back a b
bend_back Upper a b = ap neg_ℤ (turn_back a b)

-- ---- signs of weighted sums
pub nonneg_factor : (x m : ℤ) → pos 0 <ℤ m → pos 0 ≤ℤ (x *ℤ m) → pos 0 ≤ℤ x
nonneg_factor x m hm h =
    by_lt_z x (pos 0)
    (λ lt. absurd (omega (arith, linear, positive_product (neg_ℤ x) m (omega (arith, linear)) hm, neg_times x m)))
    (λ le. le)

-- where a product and its right factor are positive, so is the left one
pub positive_left : (x m : ℤ) → pos 0 <ℤ m → pos 0 <ℤ (x *ℤ m) → pos 0 <ℤ x
positive_left x m hm h = positive_factor m x (omega (arith, linear)) (omega (arith, linear, product_comm x m))

pub positive_sum : (x m y k z l : ℤ) → x *ℤ m ≡ y *ℤ k +ℤ z *ℤ l → pos 0 <ℤ m → pos 0 <ℤ y → pos 0 <ℤ k → pos 0 ≤ℤ z → pos 0 ≤ℤ l → pos 0 <ℤ x
positive_sum x m y k z l e hm hy hk hz hl =
    positive_left x m hm (omega (arith, linear, positive_product y k hy hk, nonneg_product z l hz hl))

-- ---- a, b, c and d stand in rising order where nothing else is said
-- two turns from a that follow each other make one
pub bend_from : (side : Side) (a b c d : Position) → rank a <ℤ rank b → rank a <ℤ rank c → rank a <ℤ rank d → pos 0 <ℤ bend side a b c
    → pos 0 <ℤ bend side a c d → pos 0 <ℤ bend side a b d
bend_from side a b c d ab ac ad h k =
    positive_sum (bend side a b d) (rank c -ℤ rank a) (bend side a b c) (rank d -ℤ rank a) (bend side a c d) (rank b -ℤ rank a) (bend_three side a b c d)
    (omega (arith, linear)) h (omega (arith, linear)) (omega (arith, linear)) (omega (arith, linear))

minus_times : (x a b : ℤ) → x *ℤ (a -ℤ b) ≡ neg_ℤ (x *ℤ (b -ℤ a))
minus_times x a b = ap (λ (z : ℤ). x *ℤ z) (let e : a -ℤ b ≡ neg_ℤ (b -ℤ a) = omega (arith, linear) in e) ∙ neg_product x (b -ℤ a)

-- the same at points before d
pub bend_to : (side : Side) (a b c d : Position) → rank a <ℤ rank d → rank b <ℤ rank d → rank c <ℤ rank d → pos 0 <ℤ bend side d a b → pos 0 <ℤ bend side d b c
    → pos 0 <ℤ bend side d a c
bend_to side a b c d ad bd cd h k =
    positive_sum (bend side d a c) (rank d -ℤ rank b) (bend side d a b) (rank d -ℤ rank c) (bend side d b c) (rank d -ℤ rank a)
    (omega (
      arith,
      linear,
      bend_three side d a b c,
      minus_times (bend side d a c) (rank b) (rank d),
      minus_times (bend side d a b) (rank c) (rank d),
      minus_times (bend side d b c) (rank a) (rank d),
    ))
    (omega (arith, linear)) h (omega (arith, linear)) (omega (arith, linear)) (omega (arith, linear))

-- a chain of four points bends everywhere where it bends at its two inner points
pub bend_outer : (side : Side) (a b c d : Position) → rank a <ℤ rank b → rank b <ℤ rank c → rank c <ℤ rank d → pos 0 <ℤ bend side a b c
    → pos 0 <ℤ bend side b c d → pos 0 <ℤ bend side a c d
bend_outer side a b c d ab bc cd h k =
    let e : bend side c d a *ℤ (rank c -ℤ rank b) ≡ bend side c d b *ℤ (rank c -ℤ rank a) +ℤ bend side c a b *ℤ (rank d -ℤ rank c) =
    omega (
      arith,
      linear,
      bend_three side c d b a,
      minus_times (bend side c d a) (rank b) (rank c),
      minus_times (bend side c d b) (rank a) (rank c),
      neg_times (bend side c a b) (rank d -ℤ rank c),
      ap (λ (z : ℤ). z *ℤ (rank d -ℤ rank c))
          (let f : bend side c b a ≡ neg_ℤ (bend side c a b) = omega (arith, linear, bend_flip side c b a) in f),
    ) in
    let g : pos 0 <ℤ bend side c d a =
    positive_sum (bend side c d a) (rank c -ℤ rank b) (bend side c d b) (rank c -ℤ rank a) (bend side c a b) (rank d -ℤ rank c) e (omega (arith, linear))
    (omega (arith, linear, bend_rotate side b c d)) (omega (arith, linear)) (omega (arith, linear, bend_rotate side c a b)) (omega (arith, linear)) in
    omega (arith, linear, bend_rotate side a c d)

-- the same of the first two points and the last
pub bend_inner : (side : Side) (a b c d : Position) → rank a <ℤ rank b → rank b <ℤ rank c → rank c <ℤ rank d → pos 0 <ℤ bend side a b c
    → pos 0 <ℤ bend side b c d → pos 0 <ℤ bend side a b d
bend_inner side a b c d ab bc cd h k =
    bend_from side a b c d ab (omega (arith, linear)) (omega (arith, linear)) h (bend_outer side a b c d ab bc cd h k)

-- p dents the chain before r, the first removed corner; then also before each later one s
pub dents_later : (side : Side) (w r s p : Position) → rank w <ℤ rank r → rank w <ℤ rank s → rank w <ℤ rank p → pos 0 <ℤ bend side w r s
    → bend side w r p ≤ℤ pos 0 → pos 0 ≤ℤ bend side w p s
dents_later side w r s p wr ws wp h k =
    nonneg_factor (bend side w p s) (rank r -ℤ rank w) (omega (arith, linear))
    (omega (
      arith,
      linear,
      bend_three side w r s p,
      neg_times (bend side w s p) (rank r -ℤ rank w),
      ap (λ (z : ℤ). z *ℤ (rank r -ℤ rank w)) (let f : bend side w p s ≡ neg_ℤ (bend side w s p) = omega (arith, linear, bend_flip side w p s) in f),
      positive_product (bend side w r s) (rank p -ℤ rank w) h (omega (arith, linear)),
      nonneg_product (neg_ℤ (bend side w r p)) (rank s -ℤ rank w) (omega (arith, linear)) (omega (arith, linear)),
      neg_times (bend side w r p) (rank s -ℤ rank w),
    ))

-- p dents the chain after r, the last removed corner; then also after each earlier one s
pub dents_earlier : (side : Side) (z r s p : Position) → rank r <ℤ rank z → rank s <ℤ rank z → rank p <ℤ rank z → pos 0 <ℤ bend side s r z
    → bend side p r z ≤ℤ pos 0 → pos 0 ≤ℤ bend side p z s
dents_earlier side z r s p rz sz pz h k =
    nonneg_factor (bend side p z s) (rank z -ℤ rank r) (omega (arith, linear))
    (omega (
      arith,
      linear,
      bend_three side z p s r,
      minus_times (bend side z p r) (rank s) (rank z),
      minus_times (bend side z p s) (rank r) (rank z),
      minus_times (bend side z s r) (rank p) (rank z),
      neg_times (bend side z p s) (rank z -ℤ rank r),
      ap (λ (y : ℤ). y *ℤ (rank z -ℤ rank r)) (let f : bend side p z s ≡ neg_ℤ (bend side z p s) =
          omega (arith, linear, bend_rotate side p z s, bend_flip side z s p) in f),
      positive_product (bend side z s r) (rank z -ℤ rank p) (omega (arith, linear, bend_rotate side z s r)) (omega (arith, linear)),
      nonneg_product (neg_ℤ (bend side z p r)) (rank z -ℤ rank s) (omega (arith, linear, bend_rotate side z p r)) (omega (arith, linear)),
      neg_times (bend side z p r) (rank z -ℤ rank s),
    ))

-- a point past the chord from a to b lies past each line that a and b lie past
pub lifted : (side : Side) (w p a b q : Position) → rank w <ℤ rank p → rank a <ℤ rank b → rank a ≤ℤ rank q → rank q ≤ℤ rank b → pos 0 ≤ℤ bend side w p a
    → pos 0 ≤ℤ bend side w p b → pos 0 ≤ℤ bend side a b q → pos 0 ≤ℤ bend side w p q
lifted side w p a b q wp ab aq qb ha hb h =
    nonneg_factor (bend side w p q) (rank b -ℤ rank a) (omega (arith, linear))
    (omega (
      arith,
      linear,
      bend_lift side w p a b q,
      nonneg_product (bend side w p a) (rank b -ℤ rank q) ha (omega (arith, linear)),
      nonneg_product (bend side w p b) (rank q -ℤ rank a) hb (omega (arith, linear)),
      nonneg_product (bend side a b q) (rank p -ℤ rank w) h (omega (arith, linear)),
    ))

-- q between a and w, past the chord from a to b, is past the chord from a to w, which lies below it
pub chord_left : (side : Side) (a w b q : Position) → rank a <ℤ rank w → rank a <ℤ rank b → rank a ≤ℤ rank q → pos 0 <ℤ bend side a w b
    → pos 0 ≤ℤ bend side a b q → pos 0 ≤ℤ bend side a w q
chord_left side a w b q aw ab aq h k =
    nonneg_factor (bend side a w q) (rank b -ℤ rank a) (omega (arith, linear))
    (omega (
      arith,
      linear,
      bend_three side a w b q,
      nonneg_product (bend side a w b) (rank q -ℤ rank a) (omega (arith, linear)) (omega (arith, linear)),
      nonneg_product (bend side a b q) (rank w -ℤ rank a) k (omega (arith, linear)),
    ))

-- q between z and b, past the chord from a to b, is past the chord from z to b
pub chord_right : (side : Side) (a z b q : Position) → rank z <ℤ rank b → rank a <ℤ rank b → rank q ≤ℤ rank b → pos 0 <ℤ bend side a z b
    → pos 0 ≤ℤ bend side a b q → pos 0 ≤ℤ bend side z b q
chord_right side a z b q zb ab qb h k =
    let g : pos 0 ≤ℤ bend side b q z = nonneg_factor (bend side b q z) (rank b -ℤ rank a) (omega (arith, linear))
    (omega (
      arith,
      linear,
      bend_three side b q a z,
      minus_times (bend side b q z) (rank a) (rank b),
      minus_times (bend side b q a) (rank z) (rank b),
      minus_times (bend side b a z) (rank q) (rank b),
      nonneg_product (bend side b q a) (rank b -ℤ rank z) (omega (arith, linear, bend_rotate side a b q))
          (omega (arith, linear)),
      nonneg_product (bend side b a z) (rank b -ℤ rank q) (omega (arith, linear, bend_rotate side b a z))
          (omega (arith, linear)),
    )) in
    omega (arith, linear, bend_rotate side z b q)
