-- A point is covered where it lies on the left of the two edges that span it.
use Rattle.std.proofs.Common.{◌≡◌, ◌≢◌, refl, sym, subst, ℕ, zero, suc, ◌+◌, ◌<◌, ◌≤◌, pos, neg_ℤ, ◌*ℤ◌, ◌≤ℤ◌, ◌<ℤ◌, ◌↔◌, ◌⊎◌, inl, inr, List, [], ◌∷◌, length}
use Rattle.std.proofs.Common.{get_or, Contains, arith, eq-or-lt_of_le}
use Rattle.std.proofs.lemmas.List.{get_or_default}
use Rattle.std.proofs.lemmas.Int.{by_lt_z}
use Rattle.range_plane.specs.ConvexCover.{Covers}
use Rattle.range_plane.specs.Edges.{at, next, Spans}
use Rattle.range_plane.specs.Plane.{Position, turn, origin, IsAtMost, IsBefore}
use Rattle.range_plane.specs.Polygon.{TurnsLeft}
use Rattle.range_plane.proofs.HalfPlanes.{in_half_plane, left_of_edge, left_of_closing, turn_back}
use Rattle.range_lemmas.proofs.Integers.{linear, at_least_product, nonneg_product, nonpos_nonpos, product_comm, neg_product}
use Rattle.range_lemmas.proofs.Members.{contains_first, contains_later}
use Rattle.range_plane.proofs.RisingDirection.{rising, IsRising}
use Rattle.range_plane.proofs.AtMost.{through_most}
use Rattle.range_plane.proofs.Separation.{covers_every_way}
use Rattle.range_plane.proofs.Unique.{least_alone}
use Rattle.range_plane.proofs.Vectors.{cross, dot, from, turn_at, dot_from, dot_origin, cross_by_dots}
use Rattle.range_plane.proofs.Without.{equal_or_apart}

-- u lies behind along d, v ahead: where the turns agree, one of them is not behind along f
one_reaches : (f d u v : Position) → dot d u ≤ℤ pos 0 → pos 0 ≤ℤ dot d v → dot d u <ℤ dot d v → pos 0 ≤ℤ (cross f d *ℤ cross u v) → (pos 0 ≤ℤ dot f u)
    ⊎ (pos 0 ≤ℤ dot f v)
one_reaches f d u v hu hv huv h =
    by_lt_z (dot f u) (pos 0)
    (λ fu. by_lt_z (dot f v) (pos 0) (λ fv. absurd (not_both_negative fu fv)) (λ k. inr k))
    (λ k. inl k)
  where
    not_both_negative : dot f u <ℤ pos 0 → dot f v <ℤ pos 0 → ⊥
    not_both_negative fu fv =
        omega (
          arith,
          linear,
          cross_by_dots f d u v,
          at_least_product (dot d v) (neg_ℤ (dot f u)) hv (omega (arith, linear)),
          at_least_product (neg_ℤ (dot d u)) (neg_ℤ (dot f v)) (omega (arith, linear)) (omega (arith, linear)),
          neg_product (dot d v) (dot f u),
          neg_product (neg_ℤ (dot d u)) (dot f v),
          product_comm (neg_ℤ (dot d u)) (dot f v),
          neg_product (dot f v) (dot d u),
          product_comm (dot d v) (dot f u),
        )

pub reaching : (L : List Position) (q f d a b : Position) → Contains L a → Contains L b → dot d (from q a) ≤ℤ pos 0 → pos 0 ≤ℤ dot d (from q b)
    → dot d (from q a) <ℤ dot d (from q b) → pos 0 ≤ℤ (cross f d *ℤ cross (from q a) (from q b)) → (s : Position) × Contains L s × (pos 0 ≤ℤ dot f (from q s))
reaching L q f d a b ma mb ha hb hab h =
    elim (one_reaches f d (from q a) (from q b) ha hb hab h) [ inl k ↦ (a, ma, k) | inr k ↦ (b, mb, k) ]

-- the order of finitely many points is progress in one direction
module _ (S : List Position) (r : IsRising S) where
  pub from_ahead : (a b : Position) → Contains S a → Contains S b → (a ≡ b) ⊎ (a ≢ b) → IsAtMost a b → pos 0 ≤ℤ dot r.direction (from a b)
  from_ahead a b ma mb (inl e) h = subst (λ z. pos 0 ≤ℤ dot r.direction (from a z)) e (omega (arith, linear, dot_origin a r.direction))
  from_ahead a b ma mb (inr n) h = omega (arith, linear, r.ahead a b ma mb h n)

  -- a later point of the set is not behind an earlier one, in the direction of their order
  pub not_behind : (a b : Position) → Contains S a → Contains S b → IsAtMost a b → pos 0 ≤ℤ dot r.direction (from a b)
  not_behind a b ma mb h = from_ahead a b ma mb (equal_or_apart a b) h

-- an edge that spans q, whose turn agrees with how f lies to the direction
spanning_reaches : (L : List Position) (q f a b : Position) (r : IsRising (q ∷ L)) → Contains L a → Contains L b → Spans a b q
    → pos 0 ≤ℤ (cross f r.direction *ℤ turn a b q) → (s : Position) × Contains L s × (pos 0 ≤ℤ dot f (from q s))
spanning_reaches L q f a b r ma mb s h =
    let mq : Contains (q ∷ L) q = contains_first q L in
    let ma' : Contains (q ∷ L) a = contains_later q L a ma in
    let mb' : Contains (q ∷ L) b = contains_later q L b mb in
    let aq : pos 0 ≤ℤ dot r.direction (from a q) = not_behind (q ∷ L) r a q ma' mq s.from in
    let qb : pos 0 ≤ℤ dot r.direction (from q b) = not_behind (q ∷ L) r q b mq mb' s.to in
    let up = s.rising in
    let ab : pos 0 <ℤ dot r.direction (from a b) = r.ahead a b ma' mb' up.0 up.1 in
    reaching L q f r.direction a b ma mb
    (omega (arith, linear, dot_from r.direction q a q, dot_origin q r.direction))
    qb
    (omega (arith, linear, dot_from r.direction q a b))
    (subst (λ z. pos 0 ≤ℤ (cross f r.direction *ℤ z)) (turn_at q a b) h)

pub covered_between : (L : List Position) (q a b c e : Position) → Contains L a → Contains L b → Contains L c → Contains L e → Spans a b q → Spans e c q
    → pos 0 ≤ℤ turn a b q → pos 0 ≤ℤ turn c e q → Covers L q
covered_between L q a b c e ma mb mc me low high h k = (covers_every_way L q).1 (λ f. reach f (rising (q ∷ L)))
  where
    reach : (f : Position) → IsRising (q ∷ L) → (s : Position) × Contains L s × (pos 0 ≤ℤ dot f (from q s))
    reach f r =
        by_lt_z (cross f r.direction) (pos 0)
        (λ lt. spanning_reaches L q f e c r me mc high (nonpos_nonpos (cross f r.direction) (turn e c q) (omega (arith, linear))
        (omega (arith, linear, turn_back c e q))))
        (λ le. spanning_reaches L q f a b r ma mb low (nonneg_product (cross f r.direction) (turn a b q) le h))

-- the corner at an index of the list is a member
pub at_member : (L : List Position) (i : ℕ) → i < length L → Contains L (at L i)
at_member L i h = (i, h, get_or_default L i (at L i) origin h)

pub next_inner : (L : List Position) (i : ℕ) → i + 1 < length L → next L i ≡ at L (i + 1)
next_inner L i h = get_or_default L (i + 1) (at L 0) origin h

beyond : (L : List Position) (k : ℕ) (d : Position) → length L ≤ k → get_or L k d ≡ d
beyond [] k d h = refl
beyond (x ∷ L) zero d h = absurd (omega arith)
beyond (x ∷ L) (suc k) d h = beyond L k d (omega arith)

pub next_last : (L : List Position) (i : ℕ) → i + 1 ≡ length L → next L i ≡ at L 0
next_last L i h = beyond L (i + 1) (at L 0) (omega arith)

inner_or_last : (L : List Position) (i : ℕ) → i < length L → (i + 1 < length L) ⊎ (i + 1 ≡ length L)
inner_or_last L i h = elim (eq-or-lt_of_le (let k : i + 1 ≤ length L = omega arith in k)) [ inl e ↦ inr e | inr l ↦ inl l ]

pub next_member : (L : List Position) (i : ℕ) → i < length L → Contains L (next L i)
next_member L i h =
    elim (inner_or_last L i h) [
      | inl l ↦ subst (Contains L) (sym (next_inner L i l)) (at_member L (i + 1) l)
      | inr e ↦ subst (Contains L) (sym (next_last L i e)) (at_member L 0 (omega arith))
    ]

-- what is covered lies on the left of each edge, or on it
pub left_of_each : (L : List Position) (q : Position) (i : ℕ) → TurnsLeft L → i < length L → Covers L q → pos 0 ≤ℤ turn (at L i) (next L i) q
left_of_each L q i t h c =
    elim (inner_or_last L i h) [
      | inl l ↦ subst (λ z. pos 0 ≤ℤ turn (at L i) z q) (sym (next_inner L i l)) (in_half_plane L (at L i) (at L (i + 1)) q (left_of_edge L t i origin l) c)
      | inr e ↦ subst (λ z. pos 0 ≤ℤ turn (at L i) z q) (sym (next_last L i e)) (in_half_plane L (at L i) (at L 0) q (left_of_closing L t i origin e) c)
    ]

-- a point is covered exactly where it is on the left of the two edges that span it
pub two_edges : (L : List Position) → TurnsLeft L → (q : Position) (i k : ℕ) → i < length L → k < length L → Spans (at L i) (next L i) q
    → Spans (next L k) (at L k) q → Covers L q ↔ ((pos 0 ≤ℤ turn (at L i) (next L i) q) × (pos 0 ≤ℤ turn (at L k) (next L k) q))
two_edges L t q i k hi hk low high = (
  λ c. (left_of_each L q i t hi c, left_of_each L q k t hk c),
  λ h. covered_between L q (at L i) (next L i) (at L k) (next L k) (at_member L i hi) (next_member L i hi) (at_member L k hk)
      (next_member L k hk) low high h.0 h.1,
)

-- a point not after one that is before c is before c
pub before_through : (a b c : Position) → IsAtMost a b → IsBefore b c → IsBefore a c
before_through a b c h k = (through_most a b c h k.0, λ e. k.1 (least_alone b c k.0 (subst (λ z. IsAtMost z b) e h)))

-- a point before one that is not after c is before c
pub through_before : (a b c : Position) → IsBefore a b → IsAtMost b c → IsBefore a c
through_before a b c h k = (through_most a b c h.0 k, λ e. h.1 (least_alone a b h.0 (subst (IsAtMost b) (sym e) k)))
