-- A finite set covers a point or a direction strictly separates the two, and never both.
use Rattle.std.proofs.Common.{◌≡◌, sym, ap, ◌∙◌, subst, ℤ, pos, ◌+ℤ◌, ◌*ℤ◌, ◌↔◌, ◌≤ℤ◌, ◌<ℤ◌, List, [], ◌∷◌, Contains, ◌⊎◌, inl, inr, arith}
use Rattle.std.proofs.lemmas.Int.{by_lt_z}
use Rattle.range_plane.proofs.Vectors.{cross, dot, from, inward, cross_flip, cross_self, cramer, along, dot_from, dot_inward, dot_origin, dot_reverse}
use Rattle.range_plane.proofs.Vectors.{reverse_of, turn_from, turn_at, scalar_product_is, positive_norm, ahead_within, ahead_along, right_of, left_of}
use Rattle.range_plane.specs.ConvexCover.{IsOnSegment, IsInTriangle, Covers, advance}
use Rattle.range_plane.specs.Laws.{ReachesEveryWay}
use Rattle.range_plane.specs.Plane.{Position, turn}
use Rattle.range_plane.specs.ConvexCover.Covers.{by_segment, by_triangle}
use Rattle.range_lemmas.proofs.Integers.{linear, Sign, sign, at_least_product, positive_product, nonpos_product, product_comm}
use Rattle.range_lemmas.proofs.Integers.Sign.{negative, naught, positive}
use lib.IntN.{zero-*ℤ}
use Rattle.range_lemmas.proofs.Members.{contains_first, contains_later, empty_contains_nothing, each}

-- each member of S lies ahead of q in the direction d
abbrev pub IsAhead : List Position → Position → Position → Type 0
IsAhead S q d = (x : Position) → Contains S x → pos 0 <ℤ dot d (from q x)

-- ---- not both
segment_behind : (q a b d : Position) → IsOnSegment q a b → pos 0 <ℤ dot d (from q a) → pos 0 <ℤ dot d (from q b) → ⊥
segment_behind q a b d s ha hb =
    let u = from q a in
    let v = from q b in
    let flat : cross u v ≡ pos 0 = sym (turn_at q a b) ∙ s.straight in
    let opposite : dot u v ≤ℤ pos 0 = subst (λ (z : ℤ). z ≤ℤ pos 0) (scalar_product_is q a b) s.between in
    omega (
      arith,
      linear,
      along u v d,
      ap (λ (z : ℤ). z *ℤ cross u d) flat,
      zero-*ℤ (cross u d),
      positive_product (dot u u) (dot d v) (positive_norm d u ha) hb,
      nonpos_product (dot d u) (dot u v) (omega (arith, linear)) opposite,
      product_comm (dot u v) (dot d u),
    )

triangle_behind : (q a b c d : Position) → IsInTriangle q a b c → pos 0 <ℤ dot d (from q a) → pos 0 <ℤ dot d (from q b) → pos 0 <ℤ dot d (from q c) → ⊥
triangle_behind q a b c d t ha hb hc =
    let u = from q a in
    let v = from q b in
    let w = from q c in
    let huv : pos 0 ≤ℤ cross u v = subst (λ (z : ℤ). pos 0 ≤ℤ z) (turn_at q a b) t.first in
    let hvw : pos 0 ≤ℤ cross v w = subst (λ (z : ℤ). pos 0 ≤ℤ z) (turn_at q b c) t.second in
    let hwu : pos 0 ≤ℤ cross w u = subst (λ (z : ℤ). pos 0 ≤ℤ z) (turn_at q c a) t.third in
    let proper : pos 0 <ℤ turn a b c = t.proper in
    omega (
      arith,
      linear,
      turn_from q a b c,
      cramer u v w d,
      at_least_product (cross u v) (dot d w) huv hc,
      at_least_product (cross v w) (dot d u) hvw ha,
      at_least_product (cross w u) (dot d v) hwu hb,
    )

-- no set covers a point that all its members are ahead of, in some direction
pub not_both : (S : List Position) (q d : Position) → Covers S q → IsAhead S q d → ⊥
not_both S q d (by_segment a b ma mb s) h = segment_behind q a b d s (h a ma) (h b mb)
not_both S q d (by_triangle a b c ma mb mc t) h = triangle_behind q a b c d t (h a ma) (h b mb) (h c mc)

-- ---- the cone of the members so far, seen from q
-- x lies ahead, and between u on its right and v on its left
pub record IsWithin (u v d x : Position) : Type 0 where
  pub ahead : pos 0 <ℤ dot d x
  pub left : pos 0 ≤ℤ cross u x
  pub right : pos 0 ≤ℤ cross x v

pub record Cone (S : List Position) (q : Position) : Type 0 where
  pub first : Position
  pub last : Position
  pub direction : Position
  pub has_first : Contains S first
  pub has_last : Contains S last
  pub within : (x : Position) → Contains S x → IsWithin (from q first) (from q last) direction (from q x)

pub data View (S : List Position) (q : Position) : Type 0 where
  empty : ((x : Position) → ¬ (Contains S x)) → View S q
  covering : Covers S q → View S q
  pointed : Cone S q → View S q

-- a larger set covers all that a smaller one covers
pub wider : (S T : List Position) (q : Position) → ((x : Position) → Contains S x → Contains T x) → Covers S q → Covers T q
wider S T q f (by_segment a b ma mb s) = by_segment a b (f a ma) (f b mb) s
wider S T q f (by_triangle a b c ma mb mc t) = by_triangle a b c (f a ma) (f b mb) (f c mc) t

-- q lies between two points that it sees in opposite directions
pub segment_from : (q a b : Position) → cross (from q a) (from q b) ≡ pos 0 → dot (from q a) (from q b) ≤ℤ pos 0 → IsOnSegment q a b
segment_from q a b e h = record { straight = turn_at q a b ∙ e; between = subst (λ (z : ℤ). z ≤ℤ pos 0) (sym (scalar_product_is q a b)) h }

pub triangle_from : (q a b c : Position) → pos 0 ≤ℤ cross (from q a) (from q b) → pos 0 ≤ℤ cross (from q b) (from q c) → pos 0 ≤ℤ cross (from q c) (from q a)
    → pos 0 <ℤ (cross (from q a) (from q b) +ℤ cross (from q b) (from q c) +ℤ cross (from q c) (from q a)) → IsInTriangle q a b c
triangle_from q a b c h k l p =
    record {
      proper = subst (λ (z : ℤ). pos 0 <ℤ z) (sym (turn_from q a b c)) p;
      first = subst (λ (z : ℤ). pos 0 ≤ℤ z) (sym (turn_at q a b)) h;
      second =
          subst (λ (z : ℤ). pos 0 ≤ℤ z) (sym (turn_at q b c)) k;
      third = subst (λ (z : ℤ). pos 0 ≤ℤ z) (sym (turn_at q c a)) l;
    }

-- the first member
alone : (S : List Position) (q y : Position) → ((x : Position) → ¬ (Contains S x)) → View (y ∷ S) q
alone S q y none =
    let u = from q y in
    by_lt_z (pos 0) (dot u u)
    (λ h. pointed (record {
      first = y;
      last = y;
      direction = u;
      has_first = contains_first y S;
      has_last = contains_first y S;
      within =
          each (λ x. IsWithin u u u (from q x)) y S (record { ahead = h; left = level u; right = level u }) (λ x m. absurd (none x m));
    }))
    (λ h. covering (by_segment y y (contains_first y S) (contains_first y S) (segment_from q y y (cross_self u) h)))
  where
    level : (u : Position) → pos 0 ≤ℤ cross u u
    level u = omega (arith, linear, cross_self u)

-- y lies to the right of the cone, and its opposite to the left of it or within
stay : (S : List Position) (q y : Position) (k : Cone S q) → IsWithin (from q k.first) (from q k.last) k.direction (from q y) → View (y ∷ S) q
stay S q y k w =
    pointed (record {
      first = k.first;
      last = k.last;
      direction = k.direction;
      has_first = contains_later y S k.first k.has_first;
      has_last =
          contains_later y S k.last k.has_last;
      within = each (λ x. IsWithin (from q k.first) (from q k.last) k.direction (from q x)) y S w k.within;
    })

closed : (S : List Position) (q y : Position) (k : Cone S q) → cross (from q k.first) (from q y) ≤ℤ pos 0 → pos 0 ≤ℤ cross (from q k.last) (from q y)
    → pos 0 <ℤ (cross (from q k.last) (from q y) +ℤ cross (from q y) (from q k.first)) → View (y ∷ S) q
closed S q y k hu hv hs =
    let u = from q k.first in
    let v = from q k.last in
    let uv : pos 0 ≤ℤ cross u v = (k.within k.last k.has_last).left in
    covering (by_triangle k.first k.last y (contains_later y S k.first k.has_first) (contains_later y S k.last k.has_last) (contains_first y S)
    (triangle_from q k.first k.last y uv hv (omega (arith, linear, cross_flip u (from q y))) (omega (arith, linear))))

-- the cone from y to the last member
from_right : (S : List Position) (q y : Position) (k : Cone S q) → cross (from q k.first) (from q y) <ℤ pos 0 → cross (from q k.last) (from q y) <ℤ pos 0
    → View (y ∷ S) q
from_right S q y k hu hv =
    let u = from q k.first in
    let v = from q k.last in
    let w = from q y in
    let wu : pos 0 <ℤ cross w u = omega (arith, linear, cross_flip u w) in
    let wv : pos 0 <ℤ cross w v = omega (arith, linear, cross_flip v w) in
    let du = (k.within k.first k.has_first).ahead in
    let dv = (k.within k.last k.has_last).ahead in
    pointed (record {
      first = y;
      last = k.last;
      direction = inward w v;
      has_first = contains_first y S;
      has_last = contains_later y S k.last k.has_last;
      within = each (λ x. IsWithin w v (inward w v) (from q x)) y S
          (record { ahead = omega (arith, linear, dot_inward w v w, cross_self w); left = omega (arith, linear, cross_self w); right = omega (arith, linear) })
          (λ x m. turned u v k.direction w (from q x) wu wv du dv (k.within x m));
    })
  where
    turned : (u v d w z : Position) → pos 0 <ℤ cross w u → pos 0 <ℤ cross w v → pos 0 <ℤ dot d u → pos 0 <ℤ dot d v → IsWithin u v d z
        → IsWithin w v (inward w v) z
    turned u v d w z wu wv du dv i =
        let wz : pos 0 <ℤ cross w z = right_of u v d w z wu wv du dv i.ahead i.left i.right in
        let zv : pos 0 ≤ℤ cross z v = i.right in
        record { ahead = omega (arith, linear, dot_inward w v z); left = omega (arith, linear); right = i.right }

-- the cone from the first member to y
from_left : (S : List Position) (q y : Position) (k : Cone S q) → pos 0 <ℤ cross (from q k.first) (from q y) → pos 0 <ℤ cross (from q k.last) (from q y)
    → View (y ∷ S) q
from_left S q y k uw vw =
    let u = from q k.first in
    let v = from q k.last in
    let w = from q y in
    let du = (k.within k.first k.has_first).ahead in
    let dv = (k.within k.last k.has_last).ahead in
    pointed (record {
      first = k.first;
      last = y;
      direction = inward u w;
      has_first = contains_later y S k.first k.has_first;
      has_last = contains_first y S;
      within = each (λ x. IsWithin u w (inward u w) (from q x)) y S
          (record { ahead = omega (arith, linear, dot_inward u w w, cross_self w); left = omega (arith, linear); right = omega (arith, linear, cross_self w) })
          (λ x m. turned u v k.direction w (from q x) uw vw du dv (k.within x m));
    })
  where
    turned : (u v d w z : Position) → pos 0 <ℤ cross u w → pos 0 <ℤ cross v w → pos 0 <ℤ dot d u → pos 0 <ℤ dot d v → IsWithin u v d z
        → IsWithin u w (inward u w) z
    turned u v d w z uw vw du dv i =
        let zw : pos 0 <ℤ cross z w = left_of u v d w z uw vw du dv i.ahead i.left i.right in
        let uz : pos 0 ≤ℤ cross u z = i.left in
        record { ahead = omega (arith, linear, dot_inward u w z); left = i.left; right = omega (arith, linear) }

-- y within the cone, and not at q
view_within_cone : (S : List Position) (q y : Position) (k : Cone S q) → pos 0 ≤ℤ cross (from q k.first) (from q y) → cross (from q k.last) (from q y) ≤ℤ pos 0
    → cross (from q k.last) (from q y) <ℤ cross (from q k.first) (from q y) → View (y ∷ S) q
view_within_cone S q y k hu hv hs =
    let u = from q k.first in
    let v = from q k.last in
    let w = from q y in
    let flip = cross_flip v w in
    let wv : pos 0 ≤ℤ cross w v = omega (arith, linear) in
    let d = k.direction in
    stay S q y k (record {
      ahead = ahead_within u v d w (k.within k.first k.has_first).ahead (k.within k.last k.has_last).ahead
          (k.within k.last k.has_last).left hu wv (omega (arith, linear));
      left = hu;
      right = wv;
    })

-- y in line with both sides of the cone
in_line : (S : List Position) (q y : Position) (k : Cone S q) → cross (from q k.first) (from q y) ≡ pos 0 → cross (from q k.last) (from q y) ≡ pos 0
    → View (y ∷ S) q
in_line S q y k hu hv =
    let u = from q k.first in
    let v = from q k.last in
    let w = from q y in
    let flip = cross_flip v w in
    by_lt_z (pos 0) (dot u w)
    (λ h. stay S q y k (record {
      ahead = ahead_along u k.direction w hu h (k.within k.first k.has_first).ahead;
      left = omega (arith, linear);
      right =
          omega (arith, linear);
    }))
    (λ h. covering (by_segment k.first y (contains_later y S k.first k.has_first) (contains_first y S) (segment_from q k.first y hu h)))

with_cone : (S : List Position) (q y : Position) (k : Cone S q) → Sign (cross (from q k.first) (from q y)) → Sign (cross (from q k.last) (from q y))
    → View (y ∷ S) q
with_cone S q y k (negative hu) (negative hv) = from_right S q y k hu hv
with_cone S q y k (negative hu) (naught hv) = closed S q y k (omega (arith, linear)) (omega (arith, linear))
    (omega (arith, linear, cross_flip (from q k.first) (from q y)))
with_cone S q y k (negative hu) (positive hv) = closed S q y k (omega (arith, linear)) (omega (arith, linear))
    (omega (arith, linear, cross_flip (from q k.first) (from q y)))
with_cone S q y k (naught hu) (negative hv) = view_within_cone S q y k (omega (arith, linear)) (omega (arith, linear)) (omega (arith, linear))
with_cone S q y k (naught hu) (naught hv) = in_line S q y k hu hv
with_cone S q y k (naught hu) (positive hv) = closed S q y k (omega (arith, linear)) (omega (arith, linear))
    (omega (arith, linear, cross_flip (from q k.first) (from q y)))
with_cone S q y k (positive hu) (negative hv) = view_within_cone S q y k (omega (arith, linear)) (omega (arith, linear)) (omega (arith, linear))
with_cone S q y k (positive hu) (naught hv) = view_within_cone S q y k (omega (arith, linear)) (omega (arith, linear)) (omega (arith, linear))
with_cone S q y k (positive hu) (positive hv) = from_left S q y k hu hv

with_member : (S : List Position) (q y : Position) → View S q → View (y ∷ S) q
with_member S q y (empty none) = alone S q y none
with_member S q y (covering c) = covering (wider S (y ∷ S) q (λ x m. contains_later y S x m) c)
with_member S q y (pointed k) = with_cone S q y k (sign (cross (from q k.first) (from q y))) (sign (cross (from q k.last) (from q y)))

view : (S : List Position) (q : Position) → View S q
view [] q = empty (λ x m. empty_contains_nothing x m)
view (y ∷ S) q = with_member S q y (view S q)

-- ---- one of the two
-- there is a direction in which each member of S lies ahead of q
pub record IsSeparated (S : List Position) (q : Position) : Type 0 where
  pub direction : Position
  pub ahead : IsAhead S q direction

from_view : (S : List Position) (q : Position) → View S q → Covers S q ⊎ IsSeparated S q
from_view S q (empty none) = inr (record { direction = q; ahead = λ x m. absurd (none x m) })
from_view S q (covering c) = inl c
from_view S q (pointed k) = inr (record { direction = k.direction; ahead = λ x m. (k.within x m).ahead })

-- either a set covers a point, or a direction strictly separates the two
pub covered_or_separated : (S : List Position) (q : Position) → Covers S q ⊎ IsSeparated S q
covered_or_separated S q = from_view S q (view S q)

-- ---- the same in each direction
-- no direction strictly separates q from the set: in each, some member is not behind q
abbrev Reaches : List Position → Position → Type 0
Reaches S q = (d : Position) → (s : Position) × Contains S s × (pos 0 ≤ℤ dot d (from q s))

-- a member that is not ahead, or all are
not_ahead : (S : List Position) (q d : Position) → ((s : Position) × Contains S s × (dot d (from q s) ≤ℤ pos 0)) ⊎ IsAhead S q d
not_ahead [] q d = inr (λ x m. absurd (empty_contains_nothing x m))
not_ahead (s ∷ S) q d =
    by_lt_z (pos 0) (dot d (from q s))
    (λ h. elim (not_ahead S q d) [ inl w ↦ inl (w.0, contains_later s S w.0 w.1, w.2) | inr f ↦ inr (each (λ x. pos 0 <ℤ dot d (from q x)) s S h f) ])
    (λ h. inl (s, contains_first s S, h))

behind_reversed : (d q s : Position) → dot (reverse_of d) (from q s) +ℤ dot d (from q s) ≡ pos 0
behind_reversed d q s = omega (arith, linear, dot_reverse d q s, dot_from d q s q, dot_origin q d)

-- a set covers a point exactly where no direction strictly separates the two
pub covers_every_way : (S : List Position) (q : Position) → Covers S q ↔ Reaches S q
covers_every_way S q = (reaches, covers)
  where
    reaches : Covers S q → Reaches S q
    reaches c d = elim (not_ahead S q (reverse_of d)) [
      | inl w ↦ (w.0, w.1, omega (arith, linear, behind_reversed d q w.0, w.2))
      | inr f ↦ absurd (not_both S q (reverse_of d) c f)
    ]

    behind : (s : IsSeparated S q) → Reaches S q → ⊥
    behind s r = let w = r (reverse_of s.direction) in omega (arith, linear, w.2, s.ahead w.0 w.1, behind_reversed s.direction q w.0)

    covers : Reaches S q → Covers S q
    covers r = elim (covered_or_separated S q) [ inl c ↦ c | inr s ↦ absurd (behind s r) ]

-- the same, by how far members lie past q
pub covers_reaching : (S : List Position) (q : Position) → Covers S q ↔ ReachesEveryWay S q
unfolding advance dot from
covers_reaching S q = covers_every_way S q
