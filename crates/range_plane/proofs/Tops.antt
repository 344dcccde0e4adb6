-- The corners of a polygon at_most_the_top in order up to the last of them in order, and then fall.
use Rattle.std.proofs.Common.{◌≡◌, sym, ◌∙◌, subst, ℕ, zero, suc, ◌+◌, ◌-◌, ◌<◌, ◌≤◌, ℤ, pos, ◌*ℤ◌, ◌≤ℤ◌, ◌<ℤ◌, ◌⊎◌, inl, inr, List, [], ◌∷◌, length, Contains}
use Rattle.std.proofs.Common.{arith, eq-or-lt_of_le}
use Rattle.std.proofs.lemmas.List.{get_or_default}
use Rattle.std.proofs.lemmas.Int.{by_lt_z}
use Rattle.range_plane.specs.Edges.{at, IsTop}
use Rattle.range_plane.specs.Plane.{Position, turn, origin, IsAtMost}
use Rattle.range_plane.specs.Polygon.{TurnsLeft, BeginsWithLeast}
use Rattle.range_plane.proofs.Ends.{at_most_or_before, first_least}
use Rattle.range_lemmas.proofs.Integers.{linear, nonneg_product, nonpos_product, positive_product}
use Rattle.range_lemmas.proofs.Members.{empty_contains_nothing}
use Rattle.range_plane.proofs.RisingDirection.{rising, IsRising}
use Rattle.range_plane.proofs.AtMost.{at_most_itself, through_most}
use Rattle.range_plane.proofs.SmallSets.{one_of_one}
use Rattle.range_plane.proofs.SpanningEdges.{at_member, not_behind}
use Rattle.range_plane.proofs.Vectors.{dot, from, dot_from, dot_origin, turn_four}

nonpos_factor : (a x : ℤ) → pos 0 <ℤ a → (a *ℤ x) ≤ℤ pos 0 → x ≤ℤ pos 0
nonpos_factor a x h k = by_lt_z (pos 0) x (λ p. absurd (omega (arith, linear, positive_product a x h p))) (λ le. le)

-- progress along the direction of the order is the order
not_ahead : (S : List Position) (r : IsRising S) (a b : Position) → Contains S a → Contains S b → dot r.direction (from a b) ≤ℤ pos 0 → IsAtMost b a
not_ahead S r a b ma mb h = elim (at_most_or_before b a) [ inl le ↦ le | inr lt ↦ absurd (omega (arith, linear, r.ahead a b ma mb lt.0 lt.1, h)) ]

module _ (L : List Position) (t : TurnsLeft L) (r : IsRising L) (least : (x : Position) → Contains L x → IsAtMost (at L 0) x) where
  behind : (i j : ℕ) → i < length L → j < length L → IsAtMost (at L i) (at L j) → dot r.direction (from (at L j) (at L i)) ≤ℤ pos 0
  behind i j hi hj le =
      by_lt_z (pos 0) (dot r.direction (from (at L j) (at L i)))
      (λ lt. let k = not_behind L r (at L i) (at L j) (at_member L i hi) (at_member L j hj) le in
      omega (arith, linear, dot_from r.direction (at L i) (at L j) (at L i), dot_origin (at L i) r.direction))
      (λ h. h)

  inner_before : (m i : ℕ) → 0 < i → i < m → m + 1 < length L → IsAtMost (at L m) (at L (m + 1)) → IsAtMost (at L i) (at L m)
  inner_before m i hi im hm le =
      let a = at L 0 in let b = at L i in let c = at L m in let d = at L (m + 1) in
      let ca : dot r.direction (from c a) ≤ℤ pos 0 = behind 0 m (omega arith) (omega arith) (least c (at_member L m (omega arith))) in
      let cd : pos 0 ≤ℤ dot r.direction (from c d) = not_behind L r c d (at_member L m (omega arith)) (at_member L (m + 1) hm) le in
      let acd : pos 0 <ℤ turn a c d = t 0 m (m + 1) origin (omega arith) (omega arith) hm in
      let bcd : pos 0 <ℤ turn b c d = t i m (m + 1) origin im (omega arith) hm in
      let abc : pos 0 <ℤ turn a b c = t 0 i m origin hi im (omega arith) in
      not_ahead L r c b (at_member L m (omega arith)) (at_member L i (omega arith))
      (nonpos_factor (turn a c d) (dot r.direction (from c b)) acd
      (omega (
        arith,
        linear,
        turn_four r.direction a b c d,
        nonpos_product (turn b c d) (dot r.direction (from c a)) (omega (arith, linear)) ca,
        nonneg_product (turn a b c) (dot r.direction (from c d)) (omega (arith, linear)) cd,
      )))

  inner_after : (m i : ℕ) → 0 < m → m + 1 < i → i < length L → IsAtMost (at L (m + 1)) (at L m) → IsAtMost (at L i) (at L (m + 1))
  inner_after m i hm mi hi le =
      let a = at L 0 in let b = at L m in let c = at L (m + 1) in let d = at L i in
      let ca : dot r.direction (from c a) ≤ℤ pos 0 = behind 0 (m + 1) (omega arith) (omega arith) (least c (at_member L (m + 1) (omega arith))) in
      let cb : pos 0 ≤ℤ dot r.direction (from c b) = not_behind L r c b (at_member L (m + 1) (omega arith)) (at_member L m (omega arith)) le in
      let acd : pos 0 <ℤ turn a c d = t 0 (m + 1) i origin (omega arith) mi hi in
      let bcd : pos 0 <ℤ turn b c d = t m (m + 1) i origin (omega arith) mi hi in
      let abc : pos 0 <ℤ turn a b c = t 0 m (m + 1) origin hm (omega arith) (omega arith) in
      not_ahead L r c d (at_member L (m + 1) (omega arith)) (at_member L i hi)
      (nonpos_factor (turn a b c) (dot r.direction (from c d)) abc
      (omega (
        arith,
        linear,
        turn_four r.direction a b c d,
        nonpos_product (turn b c d) (dot r.direction (from c a)) (omega (arith, linear)) ca,
        nonneg_product (turn a c d) (dot r.direction (from c b)) (omega (arith, linear)) cb,
      )))

  pub up_to : (m : ℕ) → m + 1 < length L → IsAtMost (at L m) (at L (m + 1)) → (i : ℕ) → i ≤ m + 1 → IsAtMost (at L i) (at L (m + 1))
  up_to m hm le zero h = least (at L (m + 1)) (at_member L (m + 1) hm)
  up_to m hm le (suc i) h =
      elim (eq-or-lt_of_le h) [
        | inl e ↦ subst (λ k. IsAtMost (at L k) (at L (m + 1))) (sym e) (at_most_itself (at L (m + 1)))
        | inr lt ↦ elim (eq-or-lt_of_le (let k : suc i ≤ m = omega arith in k)) [
          | inl e ↦ subst (λ k. IsAtMost (at L k) (at L (m + 1))) (sym e) le
          | inr in_front ↦ through_most (at L (suc i)) (at L m) (at L (m + 1)) (inner_before m (suc i) (omega arith) in_front hm le) le
        ]
      ]

  pub down_from : (m : ℕ) → 0 < m → m + 1 < length L → IsAtMost (at L (m + 1)) (at L m) → (i : ℕ) → m ≤ i → i < length L → IsAtMost (at L i) (at L m)
  down_from m hm hl le i h k =
      elim (eq-or-lt_of_le h) [
        | inl e ↦ subst (λ x. IsAtMost (at L x) (at L m)) e (at_most_itself (at L m))
        | inr lt ↦ elim (eq-or-lt_of_le (let g : m + 1 ≤ i = omega arith in g)) [
          | inl e ↦ subst (λ x. IsAtMost (at L x) (at L m)) e le
          | inr beyond ↦ through_most (at L i) (at L (m + 1)) (at L m) (inner_after m i hm beyond k le) le
        ]
      ]

  -- below the top each corner is at most the next, from the top down
  rise_to : (top : ℕ) → top < length L → ((x : Position) → Contains L x → IsAtMost x (at L top)) → (d m : ℕ) → m + d + 1 ≡ top
      → IsAtMost (at L m) (at L (m + 1))
  rise_to top h g zero m e = subst (λ k. IsAtMost (at L m) (at L k)) (let f : top ≡ m + 1 = omega arith in f) (g (at L m) (at_member L m (omega arith)))
  rise_to top h g (suc d) zero e = least (at L 1) (at_member L 1 (omega arith))
  rise_to top h g (suc d) (suc m) e = inner_before (suc m + 1) (suc m) (omega arith) (omega arith) (omega arith) (rise_to top h g d (suc m + 1) (omega arith))

  -- above it each is at least the next, from the top up
  fall_from : (top : ℕ) → 0 < top → ((x : Position) → Contains L x → IsAtMost x (at L top)) → (d m : ℕ) → m ≡ top + d → m + 1 < length L
      → IsAtMost (at L (m + 1)) (at L m)
  fall_from top h g zero m e k = subst (λ i. IsAtMost (at L (m + 1)) (at L i)) (let f : top ≡ m = omega arith in f) (g (at L (m + 1)) (at_member L (m + 1) k))
  fall_from top h g (suc d) zero e k = absurd (omega arith)
  fall_from top h g (suc d) (suc m) e k = subst (λ i. IsAtMost (at L (suc m + 1)) (at L i)) (let f : m + 1 ≡ suc m = omega arith in f)
      (inner_after m (suc m + 1) (omega arith) (omega arith) k (fall_from top h g d m (omega arith) (omega arith)))

-- where corner m is not after the next, that comes last of the corners up to it
pub at_most_the_top : (L : List Position) → TurnsLeft L → BeginsWithLeast L → (m : ℕ) → m + 1 < length L → IsAtMost (at L m) (at L (m + 1)) → (i : ℕ)
    → i ≤ m + 1 → IsAtMost (at L i) (at L (m + 1))
at_most_the_top L t b = up_to L t (rising L) (first_least L b)

-- where the next corner is not after corner m, this comes last of itself and all later ones
pub fall : (L : List Position) → TurnsLeft L → BeginsWithLeast L → (m : ℕ) → 0 < m → m + 1 < length L → IsAtMost (at L (m + 1)) (at L m) → (i : ℕ) → m ≤ i
    → i < length L → IsAtMost (at L i) (at L m)
fall L t b = down_from L t (rising L) (first_least L b)

-- corners rise up to the top
pub rises_to_top : (L : List Position) (top : ℕ) → TurnsLeft L → BeginsWithLeast L → IsTop L top → top < length L → (m : ℕ) → m < top
    → IsAtMost (at L m) (at L (m + 1))
rises_to_top L top t b i within m h = rise_to L t (rising L) (first_least L b) top within i.greatest (top - (m + 1)) m (omega arith)

-- corners fall from the top on
pub falls_from_top : (L : List Position) (top : ℕ) → TurnsLeft L → BeginsWithLeast L → IsTop L top → 0 < top → (m : ℕ) → top ≤ m → m + 1 < length L
    → IsAtMost (at L (m + 1)) (at L m)
falls_from_top L top t b i some m h = fall_from L t (rising L) (first_least L b) top some i.greatest (m - top) m (omega arith)

-- what a search for the top knows
pub top_between : (L : List Position) (top : ℕ) → top < length L → ((i : ℕ) → i ≤ top → IsAtMost (at L i) (at L top))
    → ((i : ℕ) → top ≤ i → i < length L → IsAtMost (at L i) (at L top)) → IsTop L top
top_between L top h below above = record {
  within = λ _. h;
  greatest =
      λ x m. subst (λ z. IsAtMost z (at L top)) (get_or_default L m.0 origin x m.1 ∙ m.2) (go m.0 m.1 (split m.0 top));
}
  where
    go : (i : ℕ) → i < length L → (i ≤ top) ⊎ (top ≤ i) → IsAtMost (at L i) (at L top)
    go i k (inl le) = below i le
    go i k (inr ge) = above i ge k

    split : (m n : ℕ) → (m ≤ n) ⊎ (n ≤ m)
    split m n = grind arith

-- the first of at most one corner is the top
pub top_of_few : (L : List Position) → length L < 2 → IsTop L 0
top_of_few [] h = record { within = λ k. k; greatest = λ x m. absurd (empty_contains_nothing x m) }
top_of_few (c ∷ []) h = record { within = λ k. k; greatest = λ x m. subst (λ z. IsAtMost z c) (sym (one_of_one c x m)) (at_most_itself c) }
top_of_few (c ∷ d ∷ L) h = absurd (omega arith)

-- neither of the first two corners is after the second
pub second_not_before : (L : List Position) → BeginsWithLeast L → 1 < length L → (i : ℕ) → i ≤ 1 → IsAtMost (at L i) (at L 1)
second_not_before L b h zero k = first_least L b (at L 1) (at_member L 1 h)
second_not_before L b h (suc zero) k = at_most_itself (at L 1)
second_not_before L b h (suc (suc i)) k = absurd (omega arith)

-- no corner from the last on is after the last
pub last_itself : (L : List Position) (i : ℕ) → length L - 1 ≤ i → i < length L → IsAtMost (at L i) (at L (length L - 1))
last_itself L i h k = subst (λ n. IsAtMost (at L i) (at L n)) (let e : i ≡ length L - 1 = omega arith in e) (at_most_itself (at L i))
