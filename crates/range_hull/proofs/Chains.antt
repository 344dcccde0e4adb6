-- A chain in which a point takes the place of the corners that it covers is a chain, and has within it all that it had.
use Rattle.std.proofs.Common.{◌≡◌, refl, sym, ap, subst, ◌∙◌, ℕ, suc, ◌+◌, ◌-◌, ◌<◌, ◌≤◌, pos, ◌≤ℤ◌, ◌<ℤ◌, ◌⊎◌, inl, inr, List, ◌∷◌, length, take, drop, get_or}
use Rattle.std.proofs.Common.{arith, eq-or-lt_of_le, Contains}
use Rattle.std.proofs.lemmas.Bool.{cases_lt}
use Rattle.std.proofs.lemmas.Int.{by_lt_z, ints}
use Rattle.std.proofs.lemmas.List.{get_or_append_left, get_or-take, get_or-drop, get_or-append_right, length-take-le, get_or_default}
use Rattle.range_plane.specs.Edges.{at}
use Rattle.range_plane.specs.Order.{rank, rank_base}
use Rattle.range_plane.specs.Plane.{Position, IsAtMost, IsWithinLimits, origin}
use Rattle.range_lemmas.proofs.Integers.{linear}
use Rattle.range_lemmas.proofs.Numbered.{by_one_number}
use Rattle.range_lemmas.proofs.Indices.{replaced_length}
use Rattle.range_pieces.specs.Pieces.{exchange}
use Rattle.range_pieces.specs.PointList.{IsRising}
use Rattle.range_hull.specs.declared.side.Side.{Side}
use Rattle.range_hull.specs.Chain.{bend, IsChain, LiesWithin, on_corner, on_chord, BeginsAs, EndsAs, Extends}
use Rattle.range_hull.proofs.Bends.{bend_rotate, bend_flip, bend_back, bend_from, bend_to, bend_outer, bend_inner, dents_later, dents_earlier, lifted}
use Rattle.range_hull.proofs.Bends.{chord_left, chord_right}

-- p falls at `index`, outside of the chain; the corners from `from` up to `to` dent the chain with p, and those around them don't
pub record ReplacesRun (side : Side) (L : List Position) (p : Position) (from index to : ℕ) : Type 0 where
  pub low : from ≤ index
  pub high : index ≤ to
  pub within : to ≤ length L
  pub starts : 0 < index → 0 < from
  pub stops : index < length L → to < length L
  pub before : (i : ℕ) → i < index → rank (at L i) <ℤ rank p
  pub after : (i : ℕ) → index ≤ i → i < length L → rank p <ℤ rank (at L i)
  pub outside : 0 < index → index < length L → pos 0 <ℤ bend side (at L (index - 1)) p (at L index)
  pub bends_before : 2 ≤ from → pos 0 <ℤ bend side (at L (from - 2)) (at L (from - 1)) p
  pub dents_before : from < index → bend side (at L (from - 1)) (at L from) p ≤ℤ pos 0
  pub bends_after : to + 1 < length L → pos 0 <ℤ bend side p (at L to) (at L (to + 1))
  pub dents_after : index < to → bend side p (at L (to - 1)) (at L to) ≤ℤ pos 0

pub at_left : (L : List Position) (p : Position) (from to m : ℕ) → from ≤ to → to ≤ length L → m < from → at (exchange L p from to) m ≡ at L m
at_left L p from to m h k lt =
    get_or_append_left (take from L) (p ∷ drop to L) origin m (omega (arith, length-take-le from L (omega arith))) ∙ get_or-take from L m origin lt

pub at_here : (L : List Position) (p : Position) (from to : ℕ) → from ≤ to → to ≤ length L → at (exchange L p from to) from ≡ p
at_here L p from to h k =
    get_or-append_right (take from L) (p ∷ drop to L) from from origin (length-take-le from L (omega arith)) (omega arith)
    ∙ ap (λ (x : ℕ). get_or (p ∷ drop to L) x origin) (let e : from - from ≡ 0 = omega arith in e)

pub at_right : (L : List Position) (p : Position) (from to m x : ℕ) → from ≤ to → to ≤ length L → m + to ≡ x + from + 1 → to ≤ x
    → at (exchange L p from to) m ≡ at L x
at_right L p from to m x h k e le =
    get_or-append_right (take from L) (p ∷ drop to L) from m origin (length-take-le from L (omega arith)) (omega arith)
    ∙ ap (λ (y : ℕ). get_or (p ∷ drop to L) y origin) (let f : m - from ≡ suc (x - to) = omega arith in f)
    ∙ get_or-drop to L (x - to) origin
    ∙ ap (λ (y : ℕ). get_or L y origin) (let g : to + (x - to) ≡ x = omega arith in g)

-- ---- bends with p of the corners that stay
near_before : {side : Side} {L : List Position} {p : Position} {from index to : ℕ} → IsChain side L → ReplacesRun side L p from index to → (i : ℕ) → i + 1 < from
    → pos 0 <ℤ bend side (at L i) (at L (from - 1)) p
near_before {side} {L} {p} {from} {index} {to} c t i h =
    elim (eq-or-lt_of_le (let k : i + 2 ≤ from = omega arith in k)) [
      | inl e ↦ subst (λ (x : ℕ). pos 0 <ℤ bend side (at L x) (at L (from - 1)) p) (let f : from - 2 ≡ i = omega (arith, e) in f) (t.bends_before (omega arith))
      | inr lt ↦ bend_outer side (at L i) (at L (from - 2)) (at L (from - 1)) p
          (c.rising i (from - 2) (omega (arith, lt)) (omega (arith, t.low, t.high, t.within)))
          (c.rising (from - 2) (from - 1) (omega (arith, lt)) (omega (arith, t.low, t.high, t.within))) (t.before (from - 1) (omega (arith, t.low)))
          (c.convex i (from - 2) (from - 1) (omega (arith, lt)) (omega (arith, lt)) (omega (arith, t.low, t.high, t.within))) (t.bends_before (omega arith))
    ]

bends_before : {side : Side} {L : List Position} {p : Position} {from index to : ℕ} → IsChain side L → ReplacesRun side L p from index to → (i j : ℕ) → i < j
    → j < from → pos 0 <ℤ bend side (at L i) (at L j) p
bends_before {side} {L} {p} {from} {index} {to} c t i j ij h =
    elim (eq-or-lt_of_le (let k : j + 1 ≤ from = omega arith in k)) [
      | inl e ↦ subst (λ (x : ℕ). pos 0 <ℤ bend side (at L i) (at L x) p) (let f : from - 1 ≡ j = omega (arith, e) in f) (near_before c t i (omega arith))
      | inr lt ↦ bend_inner side (at L i) (at L j) (at L (from - 1)) p (c.rising i j ij (omega (arith, t.low, t.high, t.within)))
          (c.rising j (from - 1) (omega (arith, lt)) (omega (arith, t.low, t.high, t.within))) (t.before (from - 1) (omega (arith, t.low)))
          (c.convex i j (from - 1) ij (omega (arith, lt)) (omega (arith, t.low, t.high, t.within))) (near_before c t j lt)
    ]

near_after : {side : Side} {L : List Position} {p : Position} {from index to : ℕ} → IsChain side L → ReplacesRun side L p from index to → (j : ℕ) → to < j
    → j < length L → pos 0 <ℤ bend side p (at L to) (at L j)
near_after {side} {L} {p} {from} {index} {to} c t j h k =
    elim (eq-or-lt_of_le (let m : to + 1 ≤ j = omega arith in m)) [
      | inl e ↦ subst (λ (x : ℕ). pos 0 <ℤ bend side p (at L to) (at L x)) e (t.bends_after (omega (arith, e)))
      | inr lt ↦ bend_inner side p (at L to) (at L (to + 1)) (at L j) (t.after to t.high (omega arith)) (c.rising to (to + 1) (omega arith) (omega (arith, lt)))
          (c.rising (to + 1) j lt k) (t.bends_after (omega (arith, lt))) (c.convex to (to + 1) j (omega arith) lt k)
    ]

bends_after : {side : Side} {L : List Position} {p : Position} {from index to : ℕ} → IsChain side L → ReplacesRun side L p from index to → (i j : ℕ) → to ≤ i
    → i < j → j < length L → pos 0 <ℤ bend side p (at L i) (at L j)
bends_after {side} {L} {p} {from} {index} {to} c t i j h ij k =
    elim (eq-or-lt_of_le h) [
      | inl e ↦ subst (λ (x : ℕ). pos 0 <ℤ bend side p (at L x) (at L j)) e (near_after c t j (omega (arith, e)) k)
      | inr lt ↦ bend_outer side p (at L to) (at L i) (at L j) (t.after to t.high (omega (arith, lt))) (c.rising to i lt (omega arith)) (c.rising i j ij k)
          (near_after c t i lt (omega arith)) (c.convex to i j lt ij k)
    ]

-- p lies outside of every chord above it
outside_left : {side : Side} {L : List Position} {p : Position} {from index to : ℕ} → IsChain side L → ReplacesRun side L p from index to → (i : ℕ) → i < index
    → index < length L → pos 0 <ℤ bend side (at L i) p (at L index)
outside_left {side} {L} {p} {from} {index} {to} c t i h k =
    elim (eq-or-lt_of_le (let m : i + 1 ≤ index = omega arith in m)) [
      | inl e ↦ subst (λ (x : ℕ). pos 0 <ℤ bend side (at L x) p (at L index)) (let f : index - 1 ≡ i = omega (arith, e) in f) (t.outside (omega arith) k)
      | inr lt ↦
          let a = at L i in let b = at L (index - 1) in let d = at L index in
          let g : pos 0 <ℤ bend side d a p = bend_to side a b p d (c.rising i index h k) (c.rising (index - 1) index (omega arith) k)
          (t.after index (omega arith) k) (let u : pos 0 <ℤ bend side d a b =
          omega (arith, linear, bend_rotate side d a b, c.convex i (index - 1) index (omega (arith, lt)) (omega arith) k) in u)
          (let v : pos 0 <ℤ bend side d b p = omega (arith, linear, bend_rotate side d b p, t.outside (omega arith) k) in v) in
          omega (arith, linear, bend_rotate side d a p)
    ]

outside_chord : {side : Side} {L : List Position} {p : Position} {from index to : ℕ} → IsChain side L → ReplacesRun side L p from index to → (i j : ℕ) → i < index
    → index ≤ j → j < length L → pos 0 <ℤ bend side (at L i) p (at L j)
outside_chord {side} {L} {p} {from} {index} {to} c t i j h g k =
    elim (eq-or-lt_of_le g) [
      | inl e ↦ subst (λ (x : ℕ). pos 0 <ℤ bend side (at L i) p (at L x)) e (outside_left c t i h (omega (arith, e)))
      | inr lt ↦ bend_from side (at L i) p (at L index) (at L j) (t.before i h) (c.rising i index h (omega (arith, lt))) (c.rising i j (omega arith) k)
          (outside_left c t i h (omega (arith, lt))) (c.convex i index j h lt k)
    ]

-- ---- the new chain
-- what stands at index m of the new chain: p, or the corner x of the old one
data Spot (L : List Position) (p : Position) (from to m : ℕ) : Type 0 where
  new : m ≡ from → at (exchange L p from to) m ≡ p → Spot L p from to m
  left : m < from → at (exchange L p from to) m ≡ at L m → Spot L p from to m
  right : (x : ℕ) → from < m → to ≤ x → x < length L → m + to ≡ x + from + 1 → at (exchange L p from to) m ≡ at L x → Spot L p from to m

spot : (L : List Position) (p : Position) (from to m : ℕ) → from ≤ to → to ≤ length L → m < length (exchange L p from to) → Spot L p from to m
spot L p from to m h k lt =
    elim (cases_lt m from) [
      | inl l ↦ left l (at_left L p from to m h k l)
      | inr g ↦ elim (eq-or-lt_of_le g) [
        | inl e ↦ new (sym e) (ap (at (exchange L p from to)) (sym e) ∙ at_here L p from to h k)
        | inr r ↦
            let n = replaced_length L p from to h k in
            let x : ℕ = m + to - from - 1 in
            let e : m + to ≡ x + from + 1 = omega (arith, r) in
            right x r (omega (arith, r)) (omega (arith, r)) e (at_right L p from to m x h k e (omega (arith, r)))
      ]
    ]

by_equal_ends : (P : Position → Position → Type 0) (a b x y : Position) → a ≡ x → b ≡ y → P x y → P a b
by_equal_ends P a b x y e f h = subst (λ (u : Position). P u b) (sym e) (subst (λ (v : Position). P x v) (sym f) h)

-- what holds of three positions holds of equal ones
pub turns_so : (P : Position → Position → Position → Type 0) (a b c x y z : Position) → a ≡ x → b ≡ y → c ≡ z → P x y z → P a b c
turns_so P a b c x y z e f g h =
    subst (λ (u : Position). P u b c) (sym e) (subst (λ (v : Position). P x v c) (sym f) (subst (λ (w : Position). P x y w) (sym g) h))

replaced_rising : {side : Side} {L : List Position} {p : Position} {from index to : ℕ} → IsChain side L → ReplacesRun side L p from index to → (i j : ℕ) → i < j
    → j < length (exchange L p from to) → rank (at (exchange L p from to) i) <ℤ rank (at (exchange L p from to) j)
replaced_rising {side} {L} {p} {from} {index} {to} c t i j h k =
    let fits : from ≤ to = omega (arith, t.low, t.high) in
    let M = exchange L p from to in
    let P : Position → Position → Type 0 = λ x y. rank x <ℤ rank y in
    elim (spot L p from to i fits t.within (omega arith)) [
      | new e f ↦ elim (spot L p from to j fits t.within k) [
        | new e' f' ↦ absurd (omega (arith, e, e'))
        | left l f' ↦ absurd (omega (arith, e, l))
        | right y m ty yl q f' ↦ by_equal_ends P (at M i) (at M j) p (at L y) f f' (t.after y (omega (arith, t.high, ty)) yl)
      ]
      | left l f ↦ elim (spot L p from to j fits t.within k) [
        | new e' f' ↦ by_equal_ends P (at M i) (at M j) (at L i) p f f' (t.before i (omega (arith, l, t.low)))
        | left l' f' ↦ by_equal_ends P (at M i) (at M j) (at L i) (at L j) f f' (c.rising i j h (omega (arith, l', fits, t.within)))
        | right y m ty yl q f' ↦ by_equal_ends P (at M i) (at M j) (at L i) (at L y) f f' (c.rising i y (omega (arith, l, fits, ty)) yl)
      ]
      | right x m tx xl q f ↦ elim (spot L p from to j fits t.within k) [
        | new e' f' ↦ absurd (omega (arith, m, e'))
        | left l f' ↦ absurd (omega (arith, m, l))
        | right y m' ty yl q' f' ↦ by_equal_ends P (at M i) (at M j) (at L x) (at L y) f f' (c.rising x y (omega (arith, q, q')) yl)
      ]
    ]

replaced_convex : {side : Side} {L : List Position} {p : Position} {from index to : ℕ} → IsChain side L → ReplacesRun side L p from index to → (i j k : ℕ) → i < j
    → j < k → k < length (exchange L p from to) → pos 0 <ℤ bend side (at (exchange L p from to) i) (at (exchange L p from to) j) (at (exchange L p from to) k)
replaced_convex {side} {L} {p} {from} {index} {to} c t i j k ij jk h =
    let fits : from ≤ to = omega (arith, t.low, t.high) in
    let M = exchange L p from to in
    let P : Position → Position → Position → Type 0 = λ x y z. pos 0 <ℤ bend side x y z in
    elim (spot L p from to i fits t.within (omega arith)) [
      | new e1 f1 ↦ elim (spot L p from to j fits t.within (omega arith)) [
        | new e2 f2 ↦ absurd (omega (arith, e1, e2))
        | left l2 f2 ↦ absurd (omega (arith, e1, l2))
        | right y m2 ty yl q2 f2 ↦ elim (spot L p from to k fits t.within h) [
          | new e3 f3 ↦ absurd (omega (arith, e1, m2, ty, yl, q2, e3))
          | left l3 f3 ↦ absurd (omega (arith, e1, m2, ty, yl, q2, l3))
          | right z m3 tz zl q3 f3 ↦ turns_so P (at M i) (at M j) (at M k) p (at L y) (at L z) f1 f2 f3
              (bends_after c t y z (omega (arith, e1, m2, ty, yl, q2, m3, tz, zl, q3, fits, t.low, t.high, t.within))
              (omega (arith, e1, m2, ty, yl, q2, m3, tz, zl, q3, fits, t.low, t.high, t.within))
              (omega (arith, e1, m2, ty, yl, q2, m3, tz, zl, q3, fits, t.low, t.high, t.within)))
        ]
      ]
      | left l1 f1 ↦ elim (spot L p from to j fits t.within (omega arith)) [
        | new e2 f2 ↦ elim (spot L p from to k fits t.within h) [
          | new e3 f3 ↦ absurd (omega (arith, l1, e2, e3))
          | left l3 f3 ↦ absurd (omega (arith, l1, e2, l3))
          | right z m3 tz zl q3 f3 ↦ turns_so P (at M i) (at M j) (at M k) (at L i) p (at L z) f1 f2 f3
              (outside_chord c t i z (omega (arith, l1, e2, m3, tz, zl, q3, fits, t.low, t.high, t.within))
              (omega (arith, l1, e2, m3, tz, zl, q3, fits, t.low, t.high, t.within)) (omega (arith, l1, e2, m3, tz, zl, q3, fits, t.low, t.high, t.within)))
        ]
        | left l2 f2 ↦ elim (spot L p from to k fits t.within h) [
          | new e3 f3 ↦ turns_so P (at M i) (at M j) (at M k) (at L i) (at L j) p f1 f2 f3
              (bends_before c t i j (omega (arith, l1, l2, e3, fits, t.low, t.high, t.within)) (omega (arith, l1, l2, e3, fits, t.low, t.high, t.within)))
          | left l3 f3 ↦ turns_so P (at M i) (at M j) (at M k) (at L i) (at L j) (at L k) f1 f2 f3
              (c.convex i j k (omega (arith, l1, l2, l3, fits, t.low, t.high, t.within)) (omega (arith, l1, l2, l3, fits, t.low, t.high, t.within))
              (omega (arith, l1, l2, l3, fits, t.low, t.high, t.within)))
          | right z m3 tz zl q3 f3 ↦ turns_so P (at M i) (at M j) (at M k) (at L i) (at L j) (at L z) f1 f2 f3
              (c.convex i j z (omega (arith, l1, l2, m3, tz, zl, q3, fits, t.low, t.high, t.within))
              (omega (arith, l1, l2, m3, tz, zl, q3, fits, t.low, t.high, t.within)) (omega (arith, l1, l2, m3, tz, zl, q3, fits, t.low, t.high, t.within)))
        ]
        | right y m2 ty yl q2 f2 ↦ elim (spot L p from to k fits t.within h) [
          | new e3 f3 ↦ absurd (omega (arith, l1, m2, ty, yl, q2, e3))
          | left l3 f3 ↦ absurd (omega (arith, l1, m2, ty, yl, q2, l3))
          | right z m3 tz zl q3 f3 ↦ turns_so P (at M i) (at M j) (at M k) (at L i) (at L y) (at L z) f1 f2 f3
              (c.convex i y z (omega (arith, l1, m2, ty, yl, q2, m3, tz, zl, q3, fits, t.low, t.high, t.within))
              (omega (arith, l1, m2, ty, yl, q2, m3, tz, zl, q3, fits, t.low, t.high, t.within))
              (omega (arith, l1, m2, ty, yl, q2, m3, tz, zl, q3, fits, t.low, t.high, t.within)))
        ]
      ]
      | right x m1 tx xl q1 f1 ↦ elim (spot L p from to j fits t.within (omega arith)) [
        | new e2 f2 ↦ absurd (omega (arith, m1, tx, xl, q1, e2))
        | left l2 f2 ↦ absurd (omega (arith, m1, tx, xl, q1, l2))
        | right y m2 ty yl q2 f2 ↦ elim (spot L p from to k fits t.within h) [
          | new e3 f3 ↦ absurd (omega (arith, m1, tx, xl, q1, m2, ty, yl, q2, e3))
          | left l3 f3 ↦ absurd (omega (arith, m1, tx, xl, q1, m2, ty, yl, q2, l3))
          | right z m3 tz zl q3 f3 ↦ turns_so P (at M i) (at M j) (at M k) (at L x) (at L y) (at L z) f1 f2 f3
              (c.convex x y z (omega (arith, m1, tx, xl, q1, m2, ty, yl, q2, m3, tz, zl, q3, fits, t.low, t.high, t.within))
              (omega (arith, m1, tx, xl, q1, m2, ty, yl, q2, m3, tz, zl, q3, fits, t.low, t.high, t.within))
              (omega (arith, m1, tx, xl, q1, m2, ty, yl, q2, m3, tz, zl, q3, fits, t.low, t.high, t.within)))
        ]
      ]
    ]

replaced_is_chain : {side : Side} {L : List Position} {p : Position} {from index to : ℕ} → IsChain side L → ReplacesRun side L p from index to
    → IsChain side (exchange L p from to)
replaced_is_chain c t = record { rising = replaced_rising c t; convex = replaced_convex c t }

-- ---- no corner lies outside of the two new edges
past_left : {side : Side} {L : List Position} {p : Position} {from index to : ℕ} → IsChain side L → ReplacesRun side L p from index to → (m : ℕ) → 0 < from
    → m < length L → pos 0 ≤ℤ bend side (at L (from - 1)) p (at L m)
past_left {side} {L} {p} {from} {index} {to} c t m s k =
    let w = at L (from - 1) in
    elim (cases_lt m from) [
      | inl l ↦ elim (eq-or-lt_of_le (let g : m + 1 ≤ from = omega (arith, l) in g)) [
        | inl e ↦ subst (λ (x : ℕ). pos 0 ≤ℤ bend side w p (at L x)) (let f : from - 1 ≡ m = omega (arith, e) in f) (omega (arith, linear, bend_back side w p))
        | inr lt ↦ omega (arith, linear, bend_rotate side (at L m) w p, near_before c t m lt)
      ]
      | inr g ↦ elim (cases_lt m index) [
        | inl l ↦ elim (eq-or-lt_of_le g) [
          | inl e ↦ subst (λ (x : ℕ). pos 0 ≤ℤ bend side w p (at L x)) e
              (omega (arith, linear, bend_flip side w p (at L from), t.dents_before (omega (arith, e, l))))
          | inr lt ↦ dents_later side w (at L from) (at L m) p (c.rising (from - 1) from (omega arith) (omega (arith, lt)))
              (c.rising (from - 1) m (omega (arith, lt)) k) (t.before (from - 1) (omega (arith, t.low))) (c.convex (from - 1) from m (omega arith) lt k)
              (t.dents_before (omega (arith, lt, l)))
        ]
        | inr le ↦ omega (arith, linear, outside_chord c t (from - 1) m (omega (arith, t.low)) le k)
      ]
    ]

past_right : {side : Side} {L : List Position} {p : Position} {from index to : ℕ} → IsChain side L → ReplacesRun side L p from index to → (m : ℕ) → to < length L
    → m < length L → pos 0 ≤ℤ bend side p (at L to) (at L m)
past_right {side} {L} {p} {from} {index} {to} c t m s k =
    let z = at L to in
    elim (cases_lt m to) [
      | inl l ↦ elim (cases_lt m index) [
        | inl l' ↦ omega (arith, linear, bend_rotate side (at L m) p z, outside_chord c t m to l' t.high s)
        | inr g ↦ elim (eq-or-lt_of_le (let u : m + 1 ≤ to = omega (arith, l) in u)) [
          | inl e ↦ subst (λ (x : ℕ). pos 0 ≤ℤ bend side p z (at L x)) (let f : to - 1 ≡ m = omega (arith, e) in f)
              (omega (arith, linear, bend_flip side p z (at L (to - 1)), t.dents_after (omega (arith, g, l))))
          | inr lt ↦ dents_earlier side z (at L (to - 1)) (at L m) p (c.rising (to - 1) to (omega (arith, lt)) s) (c.rising m to l s) (t.after to t.high s)
              (c.convex m (to - 1) to (omega (arith, lt)) (omega (arith, lt)) s) (t.dents_after (omega (arith, g, l)))
        ]
      ]
      | inr g ↦ elim (eq-or-lt_of_le g) [
        | inl e ↦ subst (λ (x : ℕ). pos 0 ≤ℤ bend side p z (at L x)) e
            (omega (arith, linear, bend_rotate side p z z, bend_flip side z z p, bend_rotate side z p z, bend_back side z p))
        | inr lt ↦ omega (arith, linear, near_after c t m lt k)
      ]
    ]

-- ---- all that was within the chain is within the new one
kept_corner_left : {side : Side} {L : List Position} {p : Position} {from index to : ℕ} → ReplacesRun side L p from index to → (q : Position) (i : ℕ) → i < from
    → q ≡ at L i → LiesWithin side (exchange L p from to) q
kept_corner_left {side} {L} {p} {from} {index} {to} t q i h e =
    let fits : from ≤ to = omega (arith, t.low, t.high) in
    on_corner i (omega (arith, replaced_length L p from to fits t.within, t.within)) (e ∙ sym (at_left L p from to i fits t.within h))

kept_corner_right : {side : Side} {L : List Position} {p : Position} {from index to : ℕ} → ReplacesRun side L p from index to → (q : Position) (i : ℕ) → to ≤ i
    → i < length L → q ≡ at L i → LiesWithin side (exchange L p from to) q
kept_corner_right {side} {L} {p} {from} {index} {to} t q i h k e =
    let fits : from ≤ to = omega (arith, t.low, t.high) in
    on_corner (i + from + 1 - to) (omega (arith, replaced_length L p from to fits t.within))
    (e ∙ sym (at_right L p from to (i + from + 1 - to) i fits t.within (omega arith) h))

-- a chord of the new chain, named by its ends
chord : {side : Side} (M : List Position) (q a b : Position) (i j : ℕ) → at M i ≡ a → at M j ≡ b → i < j → j < length M → rank a ≤ℤ rank q → rank q ≤ℤ rank b
    → pos 0 ≤ℤ bend side a b q → LiesWithin side M q
chord {side} M q a b i j e f ij k aq qb h =
    on_chord i j ij k (subst (λ (x : Position). rank x ≤ℤ rank q) (sym e) aq) (subst (λ (x : Position). rank q ≤ℤ rank x) (sym f) qb)
    (subst (λ (x : Position). pos 0 ≤ℤ bend side x (at M j) q) (sym e) (subst (λ (x : Position). pos 0 ≤ℤ bend side a x q) (sym f) h))

-- q between the corner before p and p
in_left : {side : Side} {L : List Position} {p : Position} {from index to : ℕ} → IsChain side L → ReplacesRun side L p from index to → (q : Position) → 0 < from
    → rank (at L (from - 1)) ≤ℤ rank q → rank q ≤ℤ rank p → pos 0 ≤ℤ bend side (at L (from - 1)) p q → LiesWithin side (exchange L p from to) q
in_left {side} {L} {p} {from} {index} {to} c t q s wq qp h =
    let fits : from ≤ to = omega (arith, t.low, t.high) in
    chord (exchange L p from to) q (at L (from - 1)) p (from - 1) from (at_left L p from to (from - 1) fits t.within (omega arith))
    (at_here L p from to fits t.within) (omega arith) (omega (arith, replaced_length L p from to fits t.within, t.within)) wq qp h

in_right : {side : Side} {L : List Position} {p : Position} {from index to : ℕ} → IsChain side L → ReplacesRun side L p from index to → (q : Position)
    → to < length L → rank p ≤ℤ rank q → rank q ≤ℤ rank (at L to) → pos 0 ≤ℤ bend side p (at L to) q → LiesWithin side (exchange L p from to) q
in_right {side} {L} {p} {from} {index} {to} c t q s pq qz h =
    let fits : from ≤ to = omega (arith, t.low, t.high) in
    chord (exchange L p from to) q p (at L to) from (from + 1) (at_here L p from to fits t.within)
    (at_right L p from to (from + 1) to fits t.within (omega arith) (omega arith)) (omega arith)
    (omega (arith, replaced_length L p from to fits t.within)) pq qz h

-- a corner, kept or not
corner_stays : {side : Side} {L : List Position} {p : Position} {from index to : ℕ} → IsChain side L → ReplacesRun side L p from index to → (q : Position) (i : ℕ)
    → i < length L → q ≡ at L i → LiesWithin side (exchange L p from to) q
corner_stays {side} {L} {p} {from} {index} {to} c t q i k e =
    elim (cases_lt i from) [
      | inl l ↦ kept_corner_left t q i l e
      | inr g ↦ elim (cases_lt i to) [
        | inr ge ↦ kept_corner_right t q i ge k e
        | inl l ↦ subst (λ (x : Position). LiesWithin side (exchange L p from to) x) (sym e) (elim (cases_lt i index) [
          | inl b ↦ in_left c t (at L i) (t.starts (omega (arith, b)))
              (let s : 0 < from = t.starts (omega (arith, b)) in let u : rank (at L (from - 1)) <ℤ rank (at L i) = c.rising (from - 1) i (omega (arith, g)) k in
              omega (arith, linear)) (let u : rank (at L i) <ℤ rank p = t.before i b in omega (arith, linear)) (past_left c t i (t.starts (omega (arith, b))) k)
          | inr a ↦ in_right c t (at L i) (t.stops (omega (arith, a))) (let u : rank p <ℤ rank (at L i) = t.after i a k in omega (arith, linear))
              (let s : to < length L = t.stops (omega (arith, a)) in let u : rank (at L i) <ℤ rank (at L to) = c.rising i to l s in omega (arith, linear))
              (past_right c t i (t.stops (omega (arith, a))) k)
        ])
      ]
    ]

-- a corner that does not come after q stands before one that comes after q
stands_before : {side : Side} {L : List Position} → IsChain side L → (i j : ℕ) → i < length L → rank (at L i) <ℤ rank (at L j) → i < j
stands_before {side} {L} c i j k lt =
    elim (cases_lt i j) [
      | inl l ↦ l
      | inr g ↦ elim (eq-or-lt_of_le g) [
        | inl e ↦ absurd (let u : rank (at L j) <ℤ rank (at L j) = subst (λ (x : ℕ). rank (at L x) <ℤ rank (at L j)) (sym e) lt in omega (arith, linear))
        | inr l ↦ absurd (let u : rank (at L j) <ℤ rank (at L i) = c.rising j i l k in omega (arith, linear))
      ]
    ]

-- q past the chord from i to j, before the corner before p
chord_stays_left : {side : Side} {L : List Position} {p : Position} {from index to : ℕ} → IsChain side L → ReplacesRun side L p from index to
    → (q : Position) (i j : ℕ)
    → i < j → j < length L → rank (at L i) ≤ℤ rank q → rank q ≤ℤ rank (at L j) → pos 0 ≤ℤ bend side (at L i) (at L j) q → 0 < from
    → rank q <ℤ rank (at L (from - 1)) → LiesWithin side (exchange L p from to) q
chord_stays_left {side} {L} {p} {from} {index} {to} c t q i j ij k iq qj h s qw =
    let fits : from ≤ to = omega (arith, t.low, t.high) in
    let M = exchange L p from to in
    let n = replaced_length L p from to fits t.within in
    let iw : i < from - 1 = stands_before c i (from - 1) (omega arith) (omega (arith, linear)) in
    elim (cases_lt j from) [
      | inl l ↦ chord M q (at L i) (at L j) i j (at_left L p from to i fits t.within (omega (arith, l))) (at_left L p from to j fits t.within l) ij
          (omega (arith, t.within, l)) iq qj h
      | inr g ↦ chord M q (at L i) (at L (from - 1)) i (from - 1) (at_left L p from to i fits t.within (omega arith))
          (at_left L p from to (from - 1) fits t.within (omega arith)) iw (omega (arith, t.within)) iq (omega (arith, linear))
          (chord_left side (at L i) (at L (from - 1)) (at L j) q (c.rising i (from - 1) iw (omega (arith, t.within, g))) (c.rising i j ij k) iq
          (c.convex i (from - 1) j iw (omega (arith, g)) k) h)
    ]

chord_stays_right : {side : Side} {L : List Position} {p : Position} {from index to : ℕ} → IsChain side L → ReplacesRun side L p from index to
    → (q : Position) (i j : ℕ)
    → i < j → j < length L → rank (at L i) ≤ℤ rank q → rank q ≤ℤ rank (at L j) → pos 0 ≤ℤ bend side (at L i) (at L j) q → to < length L
    → rank (at L to) <ℤ rank q → LiesWithin side (exchange L p from to) q
chord_stays_right {side} {L} {p} {from} {index} {to} c t q i j ij k iq qj h s zq =
    let fits : from ≤ to = omega (arith, t.low, t.high) in
    let M = exchange L p from to in
    let n = replaced_length L p from to fits t.within in
    let zj : to < j = stands_before c to j s (omega (arith, linear)) in
    let ej = at_right L p from to (j + from + 1 - to) j fits t.within (omega arith) (omega arith) in
    elim (cases_lt i to) [
      | inr g ↦ chord M q (at L i) (at L j) (i + from + 1 - to) (j + from + 1 - to)
          (at_right L p from to (i + from + 1 - to) i fits t.within (omega (arith, g)) g) ej (omega (arith, g)) (omega arith) iq qj h
      | inl l ↦ chord M q (at L to) (at L j) (from + 1) (j + from + 1 - to) (at_right L p from to (from + 1) to fits t.within (omega arith) (omega arith)) ej
          (omega arith) (omega arith) (omega (arith, linear)) qj (chord_right side (at L i) (at L to) (at L j) q (c.rising to j zj k) (c.rising i j ij k) qj
          (c.convex i to j l zj k) h)
    ]

chord_stays : {side : Side} {L : List Position} {p : Position} {from index to : ℕ} → IsChain side L → ReplacesRun side L p from index to → (q : Position) (i j : ℕ)
    → i < j → j < length L → rank (at L i) ≤ℤ rank q → rank q ≤ℤ rank (at L j) → pos 0 ≤ℤ bend side (at L i) (at L j) q
    → LiesWithin side (exchange L p from to) q
chord_stays {side} {L} {p} {from} {index} {to} c t q i j ij k iq qj h =
    by_lt_z (rank q) (rank p)
    (λ qp. elim (cases_lt 0 from) [
      | inl s ↦ by_lt_z (rank q) (rank (at L (from - 1))) (chord_stays_left c t q i j ij k iq qj h s)
          (λ wq. in_left c t q s wq (omega (arith, linear)) (lifted side (at L (from - 1)) p (at L i) (at L j) q (t.before (from - 1) (omega (arith, s, t.low)))
          (c.rising i j ij k) iq qj (past_left c t i s (omega arith)) (past_left c t j s k) h))
      | inr g ↦ absurd (let u : rank p <ℤ rank (at L i) = elim (cases_lt 0 index) [
        | inl b ↦ absurd (omega (arith, t.starts b, g))
        | inr b ↦ t.after i (omega (arith, b)) (omega arith)
      ] in omega (arith, linear))
    ])
    (λ pq. elim (cases_lt to (length L)) [
      | inl s ↦ by_lt_z (rank (at L to)) (rank q) (chord_stays_right c t q i j ij k iq qj h s)
          (λ qz. in_right c t q s pq qz (lifted side p (at L to) (at L i) (at L j) q (t.after to t.high s) (c.rising i j ij k) iq qj
          (past_right c t i s (omega arith)) (past_right c t j s k) h))
      | inr g ↦ absurd (let u : rank (at L j) <ℤ rank p = elim (cases_lt index (length L)) [
        | inl b ↦ absurd (omega (arith, t.stops b, g))
        | inr b ↦ t.before j (omega (arith, b))
      ] in omega (arith, linear))
    ])

stays_within : {side : Side} {L : List Position} {p : Position} {from index to : ℕ} → IsChain side L → ReplacesRun side L p from index to → (q : Position)
    → LiesWithin side L q → LiesWithin side (exchange L p from to) q
stays_within c t q (on_corner i k e) = corner_stays c t q i k e
stays_within c t q (on_chord i j ij k iq qj h) = chord_stays c t q i j ij k iq qj h

new_within : {side : Side} {L : List Position} {p : Position} {from index to : ℕ} → ReplacesRun side L p from index to → LiesWithin side (exchange L p from to) p
new_within {side} {L} {p} {from} {index} {to} t =
    let fits : from ≤ to = omega (arith, t.low, t.high) in
    on_corner from (omega (arith, replaced_length L p from to fits t.within)) (sym (at_here L p from to fits t.within))

-- a point that does not lie outside of the chain at its index
pub inside_within : {side : Side} {L : List Position} {p : Position} {index : ℕ} → 0 < index → index < length L → rank (at L (index - 1)) <ℤ rank p
    → rank p <ℤ rank (at L index) → bend side (at L (index - 1)) p (at L index) ≤ℤ pos 0 → LiesWithin side L p
inside_within {side} {L} {p} {index} h k b a n =
    on_chord (index - 1) index (omega arith) k (omega (arith, linear)) (omega (arith, linear))
    (omega (arith, linear, bend_flip side (at L (index - 1)) (at L index) p))

-- ---- ends and members
pub not_before : {side : Side} {L : List Position} → IsChain side L → (i j : ℕ) → i ≤ j → j < length L → rank (at L i) ≤ℤ rank (at L j)
not_before {side} {L} c i j h k =
    elim (eq-or-lt_of_le h) [
      | inl e ↦ subst (λ (x : ℕ). rank (at L i) ≤ℤ rank (at L x)) e (omega (arith, linear))
      | inr l ↦ let u : rank (at L i) <ℤ rank (at L j) = c.rising i j l k in omega (arith, linear)
    ]

-- q comes neither before the first corner nor after the last
pub record IsBetween (L : List Position) (q : Position) : Type 0 where
  pub some : 0 < length L
  pub first : rank (at L 0) ≤ℤ rank q
  pub last : rank q ≤ℤ rank (at L (length L - 1))

-- what lies within a chain lies between its ends
pub within_between : {side : Side} {L : List Position} → IsChain side L → (q : Position) → LiesWithin side L q → IsBetween L q
within_between {side} {L} c q (on_corner i k e) =
    subst (λ (x : Position). IsBetween L x) (sym e) (record {
      some = omega arith;
      first = not_before c 0 i (omega arith) k;
      last =
          not_before c i (length L - 1) (omega arith) (omega arith);
    })
within_between {side} {L} c q (on_chord i j ij k iq qj h) =
    let u : rank (at L 0) ≤ℤ rank (at L i) = not_before c 0 i (omega arith) (omega arith) in
    let v : rank (at L j) ≤ℤ rank (at L (length L - 1)) = not_before c j (length L - 1) (omega arith) (omega arith) in
    record { some = omega arith; first = omega (arith, linear); last = omega (arith, linear) }

first_kept : {side : Side} {L : List Position} → IsChain side L → (p : Position) → LiesWithin side L p → BeginsAs L p L
first_kept c p h = let b = within_between c p h in inr (refl, b.some, b.first)

last_kept : {side : Side} {L : List Position} → IsChain side L → (p : Position) → LiesWithin side L p → EndsAs L p L
last_kept c p h = let b = within_between c p h in inr (refl, b.some, b.last)

first_replaced : {side : Side} {L : List Position} {p : Position} {from index to : ℕ} → IsChain side L → ReplacesRun side L p from index to
    → BeginsAs L p (exchange L p from to)
first_replaced {side} {L} {p} {from} {index} {to} c t =
    let fits : from ≤ to = omega (arith, t.low, t.high) in
    elim (cases_lt 0 from) [
      | inl l ↦ inr (
        at_left L p from to 0 fits t.within l,
        omega (arith, l, fits, t.within),
        (let u : rank (at L 0) <ℤ rank p = t.before 0 (omega (arith, l, t.low)) in omega (arith, linear)),
      )
      | inr g ↦ inl (
        ap (at (exchange L p from to)) (let e : 0 ≡ from = omega (arith, g) in e)
            ∙ at_here L p from to fits t.within,
        λ s. elim (cases_lt 0 index) [
          | inl b ↦ absurd (omega (arith, t.starts b, g))
          | inr b ↦ t.after 0 (omega (arith, b)) s
        ],
      )
    ]

last_replaced : {side : Side} {L : List Position} {p : Position} {from index to : ℕ} → IsChain side L → ReplacesRun side L p from index to
    → EndsAs L p (exchange L p from to)
last_replaced {side} {L} {p} {from} {index} {to} c t =
    let fits : from ≤ to = omega (arith, t.low, t.high) in
    let n = replaced_length L p from to fits t.within in
    elim (cases_lt to (length L)) [
      | inl l ↦ inr (
        at_right L p from to (length (exchange L p from to) - 1) (length L - 1) fits t.within (omega (arith, l)) (omega (arith, l)),
        omega (arith, l),
        (let u : rank p <ℤ rank (at L (length L - 1)) =
            elim (cases_lt (length L - 1) index) [
              | inl b ↦ absurd (let v : index ≡ length L = omega (arith, b, t.high, t.within) in omega (arith, t.high, l))
              | inr b ↦ t.after (length L - 1) b (omega (arith, l))
            ] in omega (arith, linear)),
      )
      | inr g ↦ inl (
        ap (at (exchange L p from to)) (let e : length (exchange L p from to) - 1 ≡ from = omega (arith, g, t.within) in e)
            ∙ at_here L p from to fits t.within,
        λ s. elim (cases_lt index (length L)) [
          | inl b ↦ absurd (omega (arith, t.stops b, g))
          | inr b ↦ t.before (length L - 1) (omega (arith, b, s))
        ],
      )
    ]

-- the corner at an index is a member
pub contains_at : (L : List Position) (q : Position) (x : ℕ) → x < length L → q ≡ at L x → Contains L q
contains_at L q x k e = (x, k, sym (e ∙ get_or_default L x origin q k))

members_replaced : (L : List Position) (p : Position) (from to : ℕ) → from ≤ to → to ≤ length L → (q : Position) → Contains (exchange L p from to) q → (q ≡ p)
    ⊎ Contains L q
members_replaced L p from to h k q m =
    let e : q ≡ at (exchange L p from to) (m.0) = sym m.2 ∙ get_or_default (exchange L p from to) (m.0) q origin m.1 in
    elim (spot L p from to (m.0) h k m.1) [
      | new f g ↦ inl (e ∙ g)
      | left l g ↦ inr (contains_at L q (m.0) (omega (arith, l, h, k)) (e ∙ g))
      | right x l b xl f g ↦ inr (contains_at L q x xl (e ∙ g))
    ]

-- ---- both ways to add p
-- p lies within the chain
pub within_extends : {side : Side} {L : List Position} → IsChain side L → (p : Position) → LiesWithin side L p → Extends side L p L
within_extends c p h = record { chain = c; keeps = λ q w. w; takes = h; members = λ q m. inr m; first = first_kept c p h; last = last_kept c p h }

-- p takes the place of the corners that it covers
pub replaced_extends : {side : Side} {L : List Position} {p : Position} {from index to : ℕ} → IsChain side L → ReplacesRun side L p from index to
    → Extends side L p (exchange L p from to)
replaced_extends {side} {L} {p} {from} {index} {to} c t = record {
  chain = replaced_is_chain c t;
  keeps = stays_within c t;
  takes = new_within t;
  members = members_replaced L p from to (omega (arith, t.low, t.high)) t.within;
  first = first_replaced c t;
  last = last_replaced c t;
}

-- ---- what the code reads
-- where points rise and p comes before the one at `index`, it comes before all from there on
pub after_index : (L : List Position) (p : Position) (index : ℕ) → IsRising L → (index < length L → rank p <ℤ rank (at L index)) → (i : ℕ) → index ≤ i
    → i < length L → rank p <ℤ rank (at L i)
after_index L p index c h i g k =
    elim (eq-or-lt_of_le g) [
      | inl e ↦ subst (λ (x : ℕ). rank p <ℤ rank (at L x)) e (h (omega (arith, e)))
      | inr l ↦ let u : rank (at L index) <ℤ rank (at L i) = c index i l k in let v : rank p <ℤ rank (at L index) = h (omega arith) in omega (arith, linear)
    ]

-- the order of points within the limits is that of their ranks
pub at_most_by_rank : (a b : Position) → IsWithinLimits a → IsWithinLimits b → rank a ≤ℤ rank b → IsAtMost a b
unfolding rank
at_most_by_rank a b h k le = by_one_number rank_base a.e a.n b.e b.n h.1.0 (omega (arith, ints, k.1.1)) le

-- within the limits no two points have one rank
pub rank_injective : (a b : Position) → IsWithinLimits a → IsWithinLimits b → rank a ≡ rank b → a ≡ b
rank_injective a b h k e = same (at_most_by_rank a b h k (omega (arith, linear, e))) (at_most_by_rank b a k h (omega (arith, linear, e)))
  where
    same : IsAtMost a b → IsAtMost b a → a ≡ b
    same (inl l) (inl m) = absurd (omega (arith, linear, l, m))
    same (inl l) (inr m) = absurd (omega (arith, linear, l, m.0))
    same (inr l) (inl m) = absurd (omega (arith, linear, l.0, m))
    same (inr l) (inr m) = let x : a.n ≡ b.n = omega (arith, linear, l.1, m.1) in λ i. record { e = l.0 i; n = x i }
