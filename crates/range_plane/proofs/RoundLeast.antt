-- The order of corners round the least point of the set: of two one comes before the other, and in this order they are the polygon.
use Rattle.std.proofs.Common.{◌≡◌, ◌≢◌, sym, ap, ◌∙◌, subst, ℕ, zero, suc, ◌<◌, length, get_or, ℤ, pos, ◌-ℤ◌, ◌*ℤ◌, ◌≤ℤ◌, ◌<ℤ◌, ◌↔◌, List, [], ◌∷◌, Contains}
use Rattle.std.proofs.Common.{AllPairs, ◌⊎◌, inl, inr, arith, le_of_suc-le-suc}
use Rattle.std.proofs.lemmas.Int.{by_lt_z}
use Rattle.std.proofs.lemmas.List.Elements.{Contains-get_or}
use Rattle.range_plane.specs.ConvexCover.{IsOnSegment}
use Rattle.range_plane.specs.Plane.{Position, turn}
use Rattle.range_plane.specs.Polygon.{IsLeast, IsExtreme, without, TurnsLeft, IsPolygon}
use Rattle.range_plane.specs.ConvexCover.Covers.{by_segment, by_triangle}
use Rattle.range_lemmas.proofs.Integers.{linear, Sign, sign, positive_product, nonneg_product, positive_factor, product_comm}
use Rattle.range_lemmas.proofs.Integers.Sign.{negative, naught, positive}
use Rattle.range_lemmas.proofs.Members.{contains_first, contains_later, each}
use Rattle.range_plane.proofs.Separation.{not_both}
use Rattle.range_plane.proofs.RisingDirection.{rising}
use Rattle.range_lemmas.proofs.Ring.{var, ◌⊖◌, ◌⊗◌, ring}
use Rattle.range_plane.proofs.Vectors.{cross, dot, from, across, along, turn_round, scalar_product_round, nonneg_norm, turn_swap, turn_cycle, turn_self}
use Rattle.range_plane.proofs.Vectors.{turn_end}
use Rattle.range_plane.proofs.Without.{equal_or_apart, without_keeps, without_has}
use lib.IntN.{zero-*ℤ}

-- one more member, at the front, that goes with all others
pub pairs_with : {X : Type 0} (R : X → X → Type 0) (y : X) (xs : List X) → ((x : X) → Contains xs x → R y x) → AllPairs R xs → AllPairs R (y ∷ xs)
pairs_with R y xs f p zero zero d h k = absurd (omega arith)
pairs_with R y xs f p zero (suc j) d h k = f (get_or xs j d) (Contains-get_or xs j d (le_of_suc-le-suc k))
pairs_with R y xs f p (suc i) zero d h k = absurd (omega arith)
pairs_with R y xs f p (suc i) (suc j) d h k = p i j d (le_of_suc-le-suc h) (le_of_suc-le-suc k)

-- ---- the order round c, among points that lie ahead of c
-- of points ahead of c, z is on the left of x as c sees them where y is on the left of x and z on the left of y
pub transitive_round : (d c x y z : Position) → pos 0 <ℤ dot d (from c x) → pos 0 <ℤ dot d (from c y) → pos 0 <ℤ dot d (from c z) → pos 0 <ℤ turn c x y
    → pos 0 <ℤ turn c y z → pos 0 <ℤ turn c x z
transitive_round d c x y z hx hy hz xy yz =
    let u = from c x in
    let v = from c y in
    let w = from c z in
    let uv : pos 0 <ℤ cross u v = omega (arith, linear, turn_round c x y) in
    let vw : pos 0 <ℤ cross v w = omega (arith, linear, turn_round c y z) in
    let uw : pos 0 <ℤ cross u w = positive_factor (dot d v) (cross u w) (omega (arith, linear))
    (omega (
      arith,
      linear,
      across u w v d,
      positive_product (cross u v) (dot d w) uv hz,
      positive_product (cross v w) (dot d u) vw hx,
      product_comm (dot d v) (cross u w),
    )) in
    omega (arith, linear, turn_round c x z)

-- in line with c, the nearer of two points lies on the segment from c to the other
pub nearer_covered : (d c x y : Position) → pos 0 <ℤ dot d (from c x) → dot d (from c x) ≤ℤ dot d (from c y) → turn c x y ≡ pos 0 → IsOnSegment x c y
nearer_covered d c x y hx h e =
    let u = from c x in
    let v = from c y in
    let flat : cross u v ≡ pos 0 = sym (turn_round c x y) ∙ e in
    let longer : dot u u ≤ℤ dot u v =
    by_lt_z (dot u v) (dot u u)
    (λ k. absurd (omega (
      arith,
      linear,
      along u v d,
      ap (λ (z : ℤ). z *ℤ cross u d) flat,
      zero-*ℤ (cross u d),
      nonneg_product (dot u u) (dot d v -ℤ dot d u) (nonneg_norm u) (omega (arith, linear)),
      positive_product (dot u u -ℤ dot u v) (dot d u) (omega (arith, linear)) hx,
      spread (dot u u) (dot d v) (dot d u),
      spread' (dot u u) (dot u v) (dot d u),
    )))
    (λ k. k) in
    record { straight = omega (arith, linear, turn_swap c x y); between = omega (arith, linear, scalar_product_round c x y) }
  where
    spread : (a b c : ℤ) → a *ℤ (b -ℤ c) ≡ a *ℤ b -ℤ a *ℤ c
    spread a b c = ring (a ∷ b ∷ c ∷ []) (var 0 ⊗ (var 1 ⊖ var 2)) (var 0 ⊗ var 1 ⊖ var 0 ⊗ var 2) tt

    spread' : (a b c : ℤ) → (a -ℤ b) *ℤ c ≡ a *ℤ c -ℤ b *ℤ c
    spread' a b c = ring (a ∷ b ∷ c ∷ []) ((var 0 ⊖ var 1) ⊗ var 2) (var 0 ⊗ var 2 ⊖ var 1 ⊗ var 2) tt

module _ (S : List Position) (c : Position) (l : IsLeast S c) where
  -- all other points lie ahead of the least
  pub ahead : (x : Position) → Contains S x → x ≢ c → pos 0 <ℤ dot (rising S).direction (from c x)
  ahead x m a = (rising S).ahead c x l.member m (l.least x m) (λ e. a (sym e))

  pub least_extreme : IsExtreme S c
  least_extreme = record {
    member = l.member;
    needed = λ h. not_both (without c S) c (rising S).direction h
        (λ x m. let w = without_has c S x m in ahead x w.0 w.1);
  }

  not_in_line : (x y : Position) → IsExtreme S x → IsExtreme S y → x ≢ c → y ≢ c → x ≢ y → turn c x y ≡ pos 0 → ⊥
  not_in_line x y ex ey xc yc xy e =
      by_lt_z (dot (rising S).direction (from c y)) (dot (rising S).direction (from c x))
      (λ h. ey.needed (by_segment c x (without_keeps y S c (λ g. yc (sym g)) l.member) (without_keeps y S x xy ex.member)
      (nearer_covered (rising S).direction c y x (ahead y ey.member yc) (omega (arith, linear)) (omega (arith, linear, turn_swap c x y)))))
      (λ h. ex.needed (by_segment c y (without_keeps x S c (λ g. xc (sym g)) l.member) (without_keeps x S y (λ g. xy (sym g)) ey.member)
      (nearer_covered (rising S).direction c x y (ahead x ex.member xc) h e)))

  -- of two corners other than c one comes before the other
  pub one_before : (x y : Position) → IsExtreme S x → IsExtreme S y → x ≢ c → y ≢ c → x ≢ y → (pos 0 <ℤ turn c x y) ⊎ (pos 0 <ℤ turn c y x)
  one_before x y ex ey xc yc xy = go (sign (turn c x y))
    where
      go : Sign (turn c x y) → (pos 0 <ℤ turn c x y) ⊎ (pos 0 <ℤ turn c y x)
      go (positive h) = inl h
      go (negative h) = inr (omega (arith, linear, turn_swap c x y))
      go (naught e) = absurd (not_in_line x y ex ey xc yc xy e)

  -- three corners in order round c turn left, or else the middle one would lie in the triangle of c and the others
  pub turns_left_round : (x y z : Position) → IsExtreme S x → IsExtreme S y → IsExtreme S z → pos 0 <ℤ turn c x y → pos 0 <ℤ turn c y z → pos 0 <ℤ turn c x z
      → pos 0 <ℤ turn x y z
  turns_left_round x y z ex ey ez xy yz xz =
      by_lt_z (pos 0) (turn x y z) (λ h. h)
      (λ h. absurd (ey.needed (by_triangle c x z (without_keeps y S c cy l.member) (without_keeps y S x x≢y ex.member) (without_keeps y S z z≢y ez.member)
      (record {
        proper = xz;
        first = omega (arith, linear);
        second = omega (arith, linear, turn_swap x y z);
        third =
            omega (arith, linear, turn_cycle c y z, turn_cycle y z c);
      }))))
    where
      cy : c ≢ y
      cy e = positive_self (subst (λ t. pos 0 <ℤ turn t y z) e yz)
        where
          positive_self : pos 0 <ℤ turn y y z → ⊥
          positive_self h = omega (arith, linear, turn_swap y y z, turn_self y z)

      x≢y : x ≢ y
      x≢y e = let h : pos 0 <ℤ turn c y y = subst (λ t. pos 0 <ℤ turn c t y) e xy in omega (arith, linear, turn_end c y)

      z≢y : z ≢ y
      z≢y e = let h : pos 0 <ℤ turn c y y = subst (λ t. pos 0 <ℤ turn c y t) e yz in omega (arith, linear, turn_end c y)

  -- the corners other than c, in their order round it
  pub polygon_round : (R : List Position) → ((x : Position) → Contains R x ↔ (IsExtreme S x × (x ≢ c))) → AllPairs (λ x y. pos 0 <ℤ turn c x y) R
      → IsPolygon S (c ∷ R)
  polygon_round R corners pairs =
      record { corners = λ x. (extreme x, back x); distinct = distinct; least_first = λ x m. l.least x (extreme x m).member; convex = convex }
    where
      index : (k : ℕ) (d : Position) → k < length R → IsExtreme S (get_or R k d) × (get_or R k d ≢ c)
      index k d h = (corners (get_or R k d)).0 (Contains-get_or R k d h)

      extreme : (x : Position) → Contains (c ∷ R) x → IsExtreme S x
      extreme = each (IsExtreme S) c R least_extreme (λ x m. ((corners x).0 m).0)

      back : (x : Position) → IsExtreme S x → Contains (c ∷ R) x
      back x e = elim (equal_or_apart x c) [
        | inl g ↦ subst (Contains (c ∷ R)) (sym g) (contains_first c R)
        | inr a ↦ contains_later c R x ((corners x).1 (e, a))
      ]

      distinct : AllPairs (λ a b. a ≢ b) (c ∷ R)
      distinct zero zero d h k = absurd (omega arith)
      distinct zero (suc j) d h k = λ e. (index j d (le_of_suc-le-suc k)).1 (sym e)
      distinct (suc i) zero d h k = absurd (omega arith)
      distinct (suc i) (suc j) d h k = λ e. same (get_or R i d) (get_or R j d) e (pairs i j d (le_of_suc-le-suc h) (le_of_suc-le-suc k))
        where
          same : (x y : Position) → x ≡ y → pos 0 <ℤ turn c x y → ⊥
          same x y e p = let q : pos 0 <ℤ turn c y y = subst (λ z. pos 0 <ℤ turn c z y) e p in omega (arith, linear, turn_end c y)

      convex : TurnsLeft (c ∷ R)
      convex zero zero k d g h n = absurd (omega arith)
      convex zero (suc j) zero d g h n = absurd (omega arith)
      convex zero (suc j) (suc k) d g h n = pairs j k d (le_of_suc-le-suc h) (le_of_suc-le-suc n)
      convex (suc i) zero k d g h n = absurd (omega arith)
      convex (suc i) (suc j) zero d g h n = absurd (omega arith)
      convex (suc i) (suc j) (suc k) d g h n =
          turns_left_round (get_or R i d) (get_or R j d) (get_or R k d) (index i d (omega arith)).0 (index j d (omega arith)).0
          (index k d (le_of_suc-le-suc n)).0
          (pairs i j d (le_of_suc-le-suc g) (omega arith)) (pairs j k d (le_of_suc-le-suc h) (le_of_suc-le-suc n))
          (pairs i k d (omega arith) (le_of_suc-le-suc n))
