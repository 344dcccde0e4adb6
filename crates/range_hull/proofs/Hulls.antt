-- Two chains with the same ends are the polygon of the points within both.
use Rattle.std.proofs.Common.{◌≡◌, ◌≢◌, refl, sym, ap, subst, ◌∙◌, ℕ, ◌+◌, ◌-◌, ◌<◌, ◌≤◌, ℤ, pos, neg_ℤ, ◌+ℤ◌, ◌-ℤ◌, ◌*ℤ◌, ◌≤ℤ◌, ◌<ℤ◌, ◌⊎◌, inl, inr, List, []}
use Rattle.std.proofs.Common.{◌∷◌, ◌++◌, length, take, drop, reverse, get_or, arith, eq-or-lt_of_le, length-append, length-drop, Contains, AllPairs}
use Rattle.std.proofs.Common.{append_assoc}
use Rattle.std.proofs.lemmas.Bool.{cases_lt}
use Rattle.std.proofs.lemmas.Int.{by_lt_z, ints}
use Rattle.std.proofs.lemmas.List.{get_or_append_left, get_or-take, get_or-drop, get_or-append_right, get_or-reverse, length-take-le, length-reverse}
use Rattle.std.proofs.lemmas.List.{get_or_default, take_more}
use Rattle.range_plane.specs.ConvexCover.{advance}
use Rattle.range_plane.specs.Edges.{at}
use Rattle.range_plane.specs.Order.{rank, rank_base}
use Rattle.range_plane.specs.Plane.{Position, IsAtMost, IsWithinLimits, origin, turn}
use Rattle.range_plane.specs.Polygon.{BeginsWithLeast, IsPolygon, TurnsLeft}
use Rattle.range_plane.specs.Laws.{CoveringIsReaching, CoveringMembersAreCorners, ReachesEveryWay}
use Rattle.range_lemmas.proofs.Integers.{linear, product_comm, nonneg_product, positive_product, nonpos_nonpos, at_least_product, neg_product}
use Rattle.range_lemmas.proofs.Ring.{var, num, ◌⊕◌, ◌⊖◌, ◌⊗◌, ring}
use Rattle.range_lemmas.proofs.Members.{contained, contains_later}
use Rattle.range_hull.specs.declared.side.Side.{Side}
use Rattle.range_hull.specs.declared.side.Side.TheVariants.{Lower, Upper}
use Rattle.range_hull.specs.Chain.{bend, IsChain, LiesWithin, on_corner, on_chord, BeginsAs, EndsAs, Extends}
use Rattle.range_hull.specs.Hull.{inner_corners, corners_of, AreChains}
use Rattle.range_hull.proofs.Bends.{bend_rotate, bend_flip, bend_back, bend_lift, positive_left, turn_of, rank_of}
use Rattle.range_hull.proofs.Chains.{IsBetween, at_most_by_rank, turns_so, contains_at, within_between}

-- ---- both chains after a point was added
first_shared : {L U : List Position} (M V : List Position) (p : Position) → AreChains L U → BeginsAs L p M → BeginsAs U p V → at M 0 ≡ at V 0
first_shared M V p h (inl a) (inl b) = a.0 ∙ sym b.0
first_shared {L} {U} M V p h (inl a) (inr b) =
    absurd (let s : 0 < length L = elim (cases_lt 0 (length L)) [ inl s ↦ s | inr z ↦ absurd (omega (arith, b.1, h.upper_empty (omega (arith, z)))) ] in
    let u : rank (at L 0) ≤ℤ rank p = subst (λ (x : Position). rank x ≤ℤ rank p) (sym h.first) b.2 in let v : rank p <ℤ rank (at L 0) = a.1 s in
    omega (arith, linear))
first_shared {L} {U} M V p h (inr a) (inl b) =
    absurd (let s : 0 < length U = elim (cases_lt 0 (length U)) [ inl s ↦ s | inr z ↦ absurd (omega (arith, a.1, h.lower_empty (omega (arith, z)))) ] in
    let u : rank (at U 0) ≤ℤ rank p = subst (λ (x : Position). rank x ≤ℤ rank p) h.first a.2 in let v : rank p <ℤ rank (at U 0) = b.1 s in
    omega (arith, linear))
first_shared M V p h (inr a) (inr b) = a.0 ∙ h.first ∙ sym b.0

last_shared : {L U : List Position} (M V : List Position) (p : Position) → AreChains L U → EndsAs L p M → EndsAs U p V
    → at M (length M - 1) ≡ at V (length V - 1)
last_shared M V p h (inl a) (inl b) = a.0 ∙ sym b.0
last_shared {L} {U} M V p h (inl a) (inr b) =
    absurd (let s : 0 < length L = elim (cases_lt 0 (length L)) [ inl s ↦ s | inr z ↦ absurd (omega (arith, b.1, h.upper_empty (omega (arith, z)))) ] in
    let u : rank p ≤ℤ rank (at L (length L - 1)) = subst (λ (x : Position). rank p ≤ℤ rank x) (sym h.last) b.2 in let v : rank (at L (length L - 1)) <ℤ rank p =
    a.1 s in omega (arith, linear))
last_shared {L} {U} M V p h (inr a) (inl b) =
    absurd (let s : 0 < length U = elim (cases_lt 0 (length U)) [ inl s ↦ s | inr z ↦ absurd (omega (arith, a.1, h.lower_empty (omega (arith, z)))) ] in
    let u : rank p ≤ℤ rank (at U (length U - 1)) = subst (λ (x : Position). rank p ≤ℤ rank x) h.last a.2 in let v : rank (at U (length U - 1)) <ℤ rank p =
    b.1 s in omega (arith, linear))
last_shared M V p h (inr a) (inr b) = a.0 ∙ h.last ∙ sym b.0

contained_at : (L : List Position) (i : ℕ) → i < length L → Contains L (at L i)
contained_at L i k = contains_at L (at L i) i k refl

pub plane_kept : (L M : List Position) (p : Position) → IsWithinLimits p → ((q : Position) → Contains M q → (q ≡ p) ⊎ Contains L q)
    → ((i : ℕ) → i < length L → IsWithinLimits (at L i)) → (i : ℕ) → i < length M → IsWithinLimits (at M i)
plane_kept L M p hp members h i k =
    elim (members (at M i) (contained_at M i k)) [
      | inl e ↦ subst IsWithinLimits (sym e) hp
      | inr m ↦ subst IsWithinLimits (get_or_default L m.0 origin (at M i) m.1 ∙ m.2) (h m.0 m.1)
    ]

-- with the same point added to both, the chains of one polygon are again those of one
pub chains_extended : (L U M V : List Position) (p : Position) → IsWithinLimits p → AreChains L U → Extends Lower L p M → Extends Upper U p V → AreChains M V
chains_extended L U M V p hp h a b =
    let m = within_between a.chain p a.takes in
    let v = within_between b.chain p b.takes in
    record {
      lower = a.chain;
      upper = b.chain;
      lower_empty = λ z. absurd (omega (arith, v.some, z));
      upper_empty = λ z. absurd (omega (arith, m.some, z));
      first = first_shared M V p h a.first b.first;
      last = last_shared M V p h a.last b.last;
      lower_limits = plane_kept L M p hp a.members h.lower_limits;
      upper_limits = plane_kept U V p hp b.members h.upper_limits;
    }

-- ---- the corners of both chains
length_inner : (U : List Position) → length (inner_corners U) ≡ length U - 2
length_inner U =
    elim (cases_lt (length U) 2) [
      | inl l ↦ (let e : length U - 2 ≡ 0 = omega (arith, l) in ap (λ (n : ℕ). length (take n (drop 1 U))) e ∙ sym e)
      | inr g ↦ length-take-le (length U - 2) (drop 1 U) (omega (arith, g, length-drop 1 U))
    ]

-- the upper chain adds its corners between the ends
pub length_corners : (L U : List Position) → length (corners_of L U) ≡ length L + (length U - 2)
length_corners L U = omega (arith, length-append L (reverse (inner_corners U)), length-reverse (inner_corners U), length_inner U)

-- a chain that goes on to a second point has two corners
two_corners : {L : List Position} {q r : Position} → IsBetween L q → IsBetween L r → rank q <ℤ rank r → 1 < length L
two_corners {L} a b chains_share_no_corner =
    elim (cases_lt 1 (length L)) [
      | inl many ↦ many
      | inr one ↦ absurd (let z : length L - 1 ≡ 0 = omega (arith, one) in
          omega (arith, linear, ap (λ (i : ℕ). rank (at L i)) z, a.first, b.last, chains_share_no_corner))
    ]

-- what a point adds to both chains is at least what it adds to the corners
pub corners_added : (L M : List Position) {U V : List Position} {p : Position} → IsChain Upper U → Extends Upper U p V
    → length (corners_of M V) + length L + length U ≤ length (corners_of L U) + length M + length V
corners_added L M {U} {V} c t =
    let before = length_corners L U in
    let after = length_corners M V in
    elim (cases_lt 0 (length U)) [
      | inr none ↦ omega (arith, before, after, none)
      | inl some ↦
          let first = within_between t.chain (at U 0) (t.keeps (at U 0) (on_corner 0 some refl)) in
          elim (cases_lt 1 (length U)) [
            | inr one ↦ omega (arith, before, after, some, one, first.some)
            | inl many ↦
                let second = within_between t.chain (at U 1) (t.keeps (at U 1) (on_corner 1 many refl)) in
                omega (arith, before, after, many, two_corners first second (c.rising 0 1 (omega arith) many))
          ]
    ]

-- what stands at index m of the corners: a corner of the lower chain, or one between the ends of the upper
data Corner (L U : List Position) (m : ℕ) : Type 0 where
  low : m < length L → at (corners_of L U) m ≡ at L m → Corner L U m
  high : (x : ℕ) → length L ≤ m → 0 < x → x + 1 < length U → m + x + 2 ≡ length L + length U → at (corners_of L U) m ≡ at U x → Corner L U m

corner : (L U : List Position) (m : ℕ) → m < length (corners_of L U) → Corner L U m
corner L U m h =
    let n = length_corners L U in
    elim (cases_lt m (length L)) [
      | inl l ↦ low l (get_or_append_left L (reverse (inner_corners U)) origin m l)
      | inr g ↦
          let x : ℕ = length L + length U - 2 - m in
          let k : length (inner_corners U) ≡ length U - 2 = omega (arith, n, length-append L (reverse (inner_corners U)), length-reverse (inner_corners U)) in
          high x g (omega (arith, g)) (omega (arith, g)) (omega (arith, g))
          (get_or-append_right L (reverse (inner_corners U)) (length L) m origin refl g
          ∙ get_or-reverse (inner_corners U) (m - length L) origin (omega (arith, g))
          ∙ get_or-take (length U - 2) (drop 1 U) (length (inner_corners U) - 1 - (m - length L)) origin (omega (arith, g))
          ∙ get_or-drop 1 U (length (inner_corners U) - 1 - (m - length L)) origin
          ∙ ap (λ (y : ℕ). get_or U y origin) (let e : 1 + (length (inner_corners U) - 1 - (m - length L)) ≡ x = omega (arith, g) in e))
    ]

-- ---- turns between the chains
abbrev other : Side → Side
other Lower = Upper
other Upper = Lower

other_bend : (side : Side) (a b c : Position) → bend (other side) a b c ≡ bend side a c b
other_bend Lower a b c = omega (arith, linear, bend_flip Lower a b c)
other_bend Upper a b c = omega (arith, linear, bend_flip Lower a b c)

-- an edge of a chain bends to each corner that is not between its ends, or is on it
pub edge_sees : {side : Side} {L : List Position} → IsChain side L → (i j m : ℕ) → i < j → j < length L → m < length L → (m ≤ i) ⊎ (j ≤ m)
    → pos 0 ≤ℤ bend side (at L i) (at L j) (at L m)
edge_sees {side} {L} c i j m ij k l (inl h) =
    elim (eq-or-lt_of_le h) [
      | inl e ↦ subst (λ (x : ℕ). pos 0 ≤ℤ bend side (at L i) (at L j) (at L x)) (sym e) (omega (arith, linear, bend_back side (at L i) (at L j)))
      | inr lt ↦ omega (arith, linear, bend_rotate side (at L m) (at L i) (at L j), c.convex m i j lt ij k)
    ]
edge_sees {side} {L} c i j m ij k l (inr h) =
    elim (eq-or-lt_of_le h) [
      | inl e ↦ subst (λ (x : ℕ). pos 0 ≤ℤ bend side (at L i) (at L j) (at L x)) e
          (omega (arith, linear, bend_rotate side (at L i) (at L j) (at L j), bend_flip side (at L j) (at L j) (at L i), bend_back side (at L j) (at L i)))
      | inr lt ↦ omega (arith, linear, c.convex i j m ij lt l)
    ]

-- c on the other chain lies strictly past each edge of this one
mixed : (side : Side) (a b f l c : Position) → rank a <ℤ rank b → rank f <ℤ rank c → rank c <ℤ rank l → pos 0 ≤ℤ bend side a b f → pos 0 ≤ℤ bend side a b l
    → pos 0 <ℤ bend side f l c → pos 0 <ℤ bend side a b c
mixed side a b f l c ab fc cl hf hl h =
    positive_left (bend side a b c) (rank l -ℤ rank f) (omega (arith, linear))
    (omega (
      arith,
      linear,
      bend_lift side a b f l c,
      nonneg_product (bend side a b f) (rank l -ℤ rank c) hf (omega (arith, linear)),
      nonneg_product (bend side a b l) (rank c -ℤ rank f) hl (omega (arith, linear)),
      positive_product (bend side f l c) (rank b -ℤ rank a) h (omega (arith, linear)),
    ))

-- a chain, and a corner between the ends of the other chain
past_edge : {side : Side} {L U : List Position} → IsChain side L → IsChain (other side) U → at L 0 ≡ at U 0 → at L (length L - 1) ≡ at U (length U - 1)
    → (i j x : ℕ) → i < j → j < length L → 0 < x → x + 1 < length U → pos 0 <ℤ bend side (at L i) (at L j) (at U x)
past_edge {side} {L} {U} c d first last i j x ij k hx kx =
    mixed side (at L i) (at L j) (at U 0) (at U (length U - 1)) (at U x) (c.rising i j ij k) (d.rising 0 x hx (omega arith))
    (d.rising x (length U - 1) (omega arith) (omega arith))
    (subst (λ (y : Position). pos 0 ≤ℤ bend side (at L i) (at L j) y) first (edge_sees c i j 0 ij k (omega arith) (inl (omega arith))))
    (subst (λ (y : Position). pos 0 ≤ℤ bend side (at L i) (at L j) y) last (edge_sees c i j (length L - 1) ij k (omega arith) (inr (omega arith))))
    (omega (arith, linear, other_bend side (at U 0) (at U x) (at U (length U - 1)), d.convex 0 x (length U - 1) hx (omega arith) (omega arith)))

-- a corner between the ends of a chain, or an end, and an edge between inner corners of the other chain
past_inner : {side : Side} {L U : List Position} → IsChain side L → IsChain (other side) U → at L 0 ≡ at U 0 → at L (length L - 1) ≡ at U (length U - 1)
    → (i x y : ℕ) → i < length L → 0 < x → x < y → y + 1 < length U → pos 0 <ℤ bend (other side) (at U x) (at U y) (at L i)
past_inner {side} {L} {U} c d first last i x y k hx xy ky =
    elim (cases_lt 0 i) [
      | inr z ↦ (let e : i ≡ 0 = omega (arith, z) in subst (λ (q : Position). pos 0 <ℤ bend (other side) (at U x) (at U y) q) (sym (ap (at L) e ∙ first))
          (omega (arith, linear, bend_rotate (other side) (at U 0) (at U x) (at U y), d.convex 0 x y hx xy (omega arith))))
      | inl s ↦ elim (eq-or-lt_of_le (let u : i + 1 ≤ length L = omega arith in u)) [
        | inl e ↦ (let f : i ≡ length L - 1 = omega (arith, e) in
            subst (λ (q : Position). pos 0 <ℤ bend (other side) (at U x) (at U y) q) (sym (ap (at L) f ∙ last))
            (d.convex x y (length U - 1) xy (omega arith) (omega arith)))
        | inr lt ↦ mixed (other side) (at U x) (at U y) (at L 0) (at L (length L - 1)) (at L i) (d.rising x y xy (omega arith)) (c.rising 0 i s k)
            (c.rising i (length L - 1) (omega (arith, lt)) (omega arith))
            (subst (λ (q : Position). pos 0 ≤ℤ bend (other side) (at U x) (at U y) q) (sym first)
            (edge_sees d x y 0 xy (omega arith) (omega arith) (inl (omega arith))))
            (subst (λ (q : Position). pos 0 ≤ℤ bend (other side) (at U x) (at U y) q) (sym last)
            (edge_sees d x y (length U - 1) xy (omega arith) (omega arith) (inr (omega arith))))
            (omega (arith, linear, other_bend side (at L 0) (at L (length L - 1)) (at L i), c.convex 0 i (length L - 1) s (omega (arith, lt)) (omega arith)))
      ]
    ]

turns : {L U : List Position} → AreChains L U → (i j k : ℕ) → i < j → j < k → k < length (corners_of L U)
    → pos 0 <ℤ turn (at (corners_of L U) i) (at (corners_of L U) j) (at (corners_of L U) k)
turns {L} {U} h i j k ij jk l =
    let R = corners_of L U in
    let P : Position → Position → Position → Type 0 = λ x y z. pos 0 <ℤ turn x y z in
    elim (corner L U i (omega arith)) [
      | low l1 e1 ↦ elim (corner L U j (omega arith)) [
        | low l2 e2 ↦ elim (corner L U k l) [
          | low l3 e3 ↦ turns_so P (at R i) (at R j) (at R k) (at L i) (at L j) (at L k) e1 e2 e3 (h.lower.convex i j k ij jk l3)
          | high z b3 s3 t3 q3 e3 ↦ turns_so P (at R i) (at R j) (at R k) (at L i) (at L j) (at U z) e1 e2 e3
              (past_edge {side = Lower} h.lower h.upper h.first h.last i j z ij l2 s3 t3)
        ]
        | high y b2 s2 t2 q2 e2 ↦ elim (corner L U k l) [
          | low l3 e3 ↦ absurd (omega (arith, b2, l3))
          | high z b3 s3 t3 q3 e3 ↦ turns_so P (at R i) (at R j) (at R k) (at L i) (at U y) (at U z) e1 e2 e3
              (let u : pos 0 <ℤ neg_ℤ (turn (at U z) (at U y) (at L i)) =
              past_inner {side = Lower} h.lower h.upper h.first h.last i z y l1 s3 (omega (arith, q2, q3)) t2 in
              omega (arith, linear, bend_rotate Lower (at L i) (at U z) (at U y), bend_flip Lower (at L i) (at U y) (at U z)))
        ]
      ]
      | high x b1 s1 t1 q1 e1 ↦ elim (corner L U j (omega arith)) [
        | low l2 e2 ↦ absurd (omega (arith, b1, l2))
        | high y b2 s2 t2 q2 e2 ↦ elim (corner L U k l) [
          | low l3 e3 ↦ absurd (omega (arith, b2, l3))
          | high z b3 s3 t3 q3 e3 ↦ turns_so P (at R i) (at R j) (at R k) (at U x) (at U y) (at U z) e1 e2 e3
              (let u : pos 0 <ℤ neg_ℤ (turn (at U z) (at U y) (at U x)) =
              h.upper.convex z y x (omega (arith, q2, q3)) (omega (arith, q1, q2)) (omega (arith, t1)) in
              omega (arith, linear, bend_rotate Lower (at U z) (at U x) (at U y), bend_flip Lower (at U z) (at U y) (at U x)))
        ]
      ]
    ]

-- ---- the corners are in order
-- a corner of the lower chain is none between the ends of the upper one
chains_share_no_corner : {L U : List Position} → AreChains L U → (i x : ℕ) → i < length L → 0 < x → x + 1 < length U → at L i ≡ at U x → ⊥
chains_share_no_corner {L} {U} h i x k hx kx e =
    let after : rank (at L 0) <ℤ rank (at U x) = subst (λ (q : Position). rank q <ℤ rank (at U x)) (sym h.first) (h.upper.rising 0 x hx (omega arith)) in
    let before : rank (at U x) <ℤ rank (at L (length L - 1)) = subst (λ (q : Position). rank (at U x) <ℤ rank q) (sym h.last)
    (h.upper.rising x (length U - 1) (omega arith) (omega arith)) in
    elim (cases_lt 0 i) [
      | inr z ↦ (let f : rank (at L 0) ≡ rank (at U x) = ap rank (ap (at L) (let g : 0 ≡ i = omega (arith, z) in g) ∙ e) in omega (arith, linear))
      | inl s ↦ elim (eq-or-lt_of_le (let u : i + 1 ≤ length L = omega arith in u)) [
        | inl w ↦ (let f : rank (at L (length L - 1)) ≡ rank (at U x) = ap rank (ap (at L) (let g : length L - 1 ≡ i = omega (arith, w) in g) ∙ e) in
            omega (arith, linear))
        | inr lt ↦
            let u : pos 0 <ℤ bend Lower (at L 0) (at L i) (at L (length L - 1)) = h.lower.convex 0 i (length L - 1) s (omega (arith, lt)) (omega arith) in
            let v : pos 0 <ℤ bend Upper (at U 0) (at U x) (at U (length U - 1)) = h.upper.convex 0 x (length U - 1) hx (omega arith) (omega arith) in
            let w : pos 0 <ℤ bend Upper (at L 0) (at L i) (at L (length L - 1)) =
            turns_so (λ p q r. pos 0 <ℤ bend Upper p q r) (at L 0) (at L i) (at L (length L - 1)) (at U 0) (at U x)
            (at U (length U - 1)) h.first e h.last v in
            omega (arith, linear)
      ]
    ]

rank_differs : (a b : Position) → rank a <ℤ rank b → a ≡ b → ⊥
rank_differs a b h e = let f : rank a ≡ rank b = ap rank e in omega (arith, linear)

distinct_so : (a b x y : Position) → a ≡ x → b ≡ y → (x ≡ y → ⊥) → a ≡ b → ⊥
distinct_so a b x y e f h g = h (sym e ∙ g ∙ f)

distinct : {L U : List Position} → AreChains L U → (i j : ℕ) → i < j → j < length (corners_of L U) → at (corners_of L U) i ≡ at (corners_of L U) j → ⊥
distinct {L} {U} h i j ij l =
    let R = corners_of L U in
    elim (corner L U i (omega arith)) [
      | low l1 e1 ↦ elim (corner L U j l) [
        | low l2 e2 ↦ distinct_so (at R i) (at R j) (at L i) (at L j) e1 e2 (rank_differs (at L i) (at L j) (h.lower.rising i j ij l2))
        | high y b2 s2 t2 q2 e2 ↦ distinct_so (at R i) (at R j) (at L i) (at U y) e1 e2 (chains_share_no_corner h i y l1 s2 t2)
      ]
      | high x b1 s1 t1 q1 e1 ↦ elim (corner L U j l) [
        | low l2 e2 ↦ absurd (omega (arith, b1, l2))
        | high y b2 s2 t2 q2 e2 ↦ distinct_so (at R i) (at R j) (at U x) (at U y) e1 e2
            (λ e. rank_differs (at U y) (at U x) (h.upper.rising y x (omega (arith, q1, q2)) (omega (arith, t1))) (sym e))
      ]
    ]

at_any : (R : List Position) (i : ℕ) (d : Position) → i < length R → get_or R i d ≡ at R i
at_any R i d k = get_or_default R i d origin k

all_turn_left : {L U : List Position} → AreChains L U → TurnsLeft (corners_of L U)
all_turn_left {L} {U} h i j k d ij jk l =
    let R = corners_of L U in
    turns_so (λ x y z. pos 0 <ℤ turn x y z) (get_or R i d) (get_or R j d) (get_or R k d) (at R i) (at R j) (at R k) (at_any R i d (omega arith))
    (at_any R j d (omega arith)) (at_any R k d l) (turns h i j k ij jk l)

all_distinct : {L U : List Position} → AreChains L U → AllPairs (λ a b. a ≢ b) (corners_of L U)
all_distinct {L} {U} h i j d ij l e =
    let R = corners_of L U in
    distinct h i j ij l (sym (at_any R i d (omega arith)) ∙ e ∙ at_any R j d l)

-- ---- members
in_lower : (L U : List Position) (i : ℕ) → i < length L → Contains (corners_of L U) (at L i)
in_lower L U i k =
    subst (λ (q : Position). Contains (corners_of L U) q) (get_or_append_left L (reverse (inner_corners U)) origin i k)
    (contained_at (corners_of L U) i (omega (arith, length_corners L U)))

in_upper : {L U : List Position} → AreChains L U → (x : ℕ) → x < length U → Contains (corners_of L U) (at U x)
in_upper {L} {U} h x k =
    let some : 0 < length L = elim (cases_lt 0 (length L)) [ inl s ↦ s | inr z ↦ absurd (omega (arith, h.upper_empty (omega (arith, z)))) ] in
    elim (cases_lt 0 x) [
      | inr z ↦ (let e : 0 ≡ x = omega (arith, z) in subst (λ (q : Position). Contains (corners_of L U) q) (h.first ∙ ap (at U) e) (in_lower L U 0 some))
      | inl s ↦ elim (eq-or-lt_of_le (let u : x + 1 ≤ length U = omega arith in u)) [
        | inl w ↦ (let e : length U - 1 ≡ x = omega (arith, w) in
            subst (λ (q : Position). Contains (corners_of L U) q) (h.last ∙ ap (at U) e) (in_lower L U (length L - 1) (omega arith)))
        | inr lt ↦
            let n = length_corners L U in
            let m : ℕ = length L + length U - 2 - x in
            let c = corner L U m (omega (arith, lt)) in
            elim c [
              | low l e ↦ absurd (omega (arith, l, lt))
              | high y b t u q e ↦ subst (λ (p : Position). Contains (corners_of L U) p) (e ∙ ap (at U) (let f : y ≡ x = omega (arith, q, lt) in f))
                  (contained_at (corners_of L U) m (omega (arith, lt)))
            ]
      ]
    ]

-- a corner is of one of the chains
data Source (L U : List Position) (q : Position) : Type 0 where
  of_lower : (i : ℕ) → i < length L → q ≡ at L i → Source L U q
  of_upper : (x : ℕ) → 0 < x → x + 1 < length U → q ≡ at U x → Source L U q

source : (L U : List Position) (q : Position) → Contains (corners_of L U) q → Source L U q
source L U q m =
    let e : q ≡ at (corners_of L U) m.0 = sym m.2 ∙ get_or_default (corners_of L U) m.0 q origin m.1 in
    elim (corner L U m.0 m.1) [
      | low l f ↦ of_lower m.0 l (e ∙ f)
      | high x b s t n f ↦ of_upper x s t (e ∙ f)
    ]

-- every corner is within both chains
pub corner_in_lower : {L U : List Position} → AreChains L U → (q : Position) → Contains (corners_of L U) q → LiesWithin Lower L q
corner_in_lower {L} {U} h q m =
    elim (source L U q m) [
      | of_lower i k e ↦ on_corner i k e
      | of_upper x s t e ↦
          let after : rank (at L 0) <ℤ rank (at U x) = subst (λ (p : Position). rank p <ℤ rank (at U x)) (sym h.first)
          (h.upper.rising 0 x s (omega (arith, t))) in
          let before : rank (at U x) <ℤ rank (at L (length L - 1)) =
          subst (λ (p : Position). rank (at U x) <ℤ rank p) (sym h.last) (h.upper.rising x (length U - 1) (omega (arith, t)) (omega (arith, t))) in
          let some : 0 < length L - 1 = elim (cases_lt 0 (length L - 1)) [
            | inl l ↦ l
            | inr z ↦ absurd (let f : rank (at L 0) ≡ rank (at L (length L - 1)) =
                ap (λ (i : ℕ). rank (at L i)) (let g : 0 ≡ length L - 1 = omega (arith, z) in g) in omega (arith, linear))
          ] in
          let v : pos 0 <ℤ bend Upper (at U 0) (at U x) (at U (length U - 1)) = h.upper.convex 0 x (length U - 1) s (omega (arith, t)) (omega (arith, t)) in
          let w : pos 0 <ℤ bend Upper (at L 0) (at U x) (at L (length L - 1)) =
          turns_so (λ a b c. pos 0 <ℤ bend Upper a b c) (at L 0) (at U x) (at L (length L - 1)) (at U 0) (at U x)
          (at U (length U - 1)) h.first refl h.last v in
          subst (λ (p : Position). LiesWithin Lower L p) (sym e) (on_chord 0 (length L - 1) some (omega arith) (omega (arith, linear)) (omega (arith, linear))
          (omega (arith, linear, bend_flip Lower (at L 0) (at L (length L - 1)) (at U x))))
    ]

-- each corner of the polygon lies within the upper chain
pub corner_in_upper : {L U : List Position} → AreChains L U → (q : Position) → Contains (corners_of L U) q → LiesWithin Upper U q
corner_in_upper {L} {U} h q m =
    elim (source L U q m) [
      | of_upper x s t e ↦ on_corner x (omega (arith, t)) e
      | of_lower i k e ↦
          let some : 0 < length U = elim (cases_lt 0 (length U)) [ inl l ↦ l | inr z ↦ absurd (omega (arith, k, h.lower_empty (omega (arith, z)))) ] in
          elim (cases_lt 0 i) [
            | inr z ↦ on_corner 0 some (e ∙ ap (at L) (let g : i ≡ 0 = omega (arith, z) in g) ∙ h.first)
            | inl s ↦ elim (eq-or-lt_of_le (let u : i + 1 ≤ length L = omega (arith, k) in u)) [
              | inl w ↦ on_corner (length U - 1) (omega arith) (e ∙ ap (at L) (let g : i ≡ length L - 1 = omega (arith, w) in g) ∙ h.last)
              | inr lt ↦
                  let after : rank (at U 0) <ℤ rank (at L i) = subst (λ (p : Position). rank p <ℤ rank (at L i)) h.first (h.lower.rising 0 i s k) in
                  let before : rank (at L i) <ℤ rank (at U (length U - 1)) =
                  subst (λ (p : Position). rank (at L i) <ℤ rank p) h.last (h.lower.rising i (length L - 1) (omega (arith, lt)) (omega (arith, lt))) in
                  let long : 0 < length U - 1 = elim (cases_lt 0 (length U - 1)) [
                    | inl l ↦ l
                    | inr z ↦ absurd (let f : rank (at U 0) ≡ rank (at U (length U - 1)) =
                        ap (λ (x : ℕ). rank (at U x)) (let g : 0 ≡ length U - 1 = omega (arith, z) in g) in omega (arith, linear))
                  ] in
                  let v : pos 0 <ℤ bend Lower (at L 0) (at L i) (at L (length L - 1)) =
                  h.lower.convex 0 i (length L - 1) s (omega (arith, lt)) (omega (arith, lt)) in
                  let w : pos 0 <ℤ bend Lower (at U 0) (at L i) (at U (length U - 1)) =
                  turns_so (λ a b c. pos 0 <ℤ bend Lower a b c) (at U 0) (at L i) (at U (length U - 1)) (at L 0) (at L i) (at L (length L - 1))
                  (sym h.first) refl (sym h.last) v in
                  subst (λ (p : Position). LiesWithin Upper U p) (sym e)
                  (on_chord 0 (length U - 1) long (omega arith) (omega (arith, linear)) (omega (arith, linear))
                  (omega (arith, linear, bend_flip Lower (at U 0) (at U (length U - 1)) (at L i))))
            ]
          ]
    ]

-- ---- the least corner is first
begins : (R : List Position) → ((x : Position) → Contains R x → IsAtMost (at R 0) x) → BeginsWithLeast R
begins [] h = tt
begins (c ∷ R) h = h

least_first : {L U : List Position} → AreChains L U → BeginsWithLeast (corners_of L U)
least_first {L} {U} h = begins (corners_of L U) least
  where
    least : (x : Position) → Contains (corners_of L U) x → IsAtMost (at (corners_of L U) 0) x
    least x m =
        let b = within_between h.lower x (corner_in_lower h x m) in
        let e : at (corners_of L U) 0 ≡ at L 0 = get_or_append_left L (reverse (inner_corners U)) origin 0 b.some in
        subst (λ (p : Position). IsAtMost p x) (sym e) (at_most_by_rank (at L 0) x (h.lower_limits 0 b.some) (in_plane x (source L U x m)) b.first)
      where
        in_plane : (q : Position) → Source L U q → IsWithinLimits q
        in_plane q (of_lower i k e) = subst IsWithinLimits (sym e) (h.lower_limits i k)
        in_plane q (of_upper i s t e) = subst IsWithinLimits (sym e) (h.upper_limits i (omega (arith, t)))

-- ---- what lies within both chains is covered
slant : Position → ℤ
slant d = d.e -ℤ d.n *ℤ pos rank_base

-- how far the ends of a chord reach, each as often as q is away from the other end
turn_by_advances : (d a b q : Position) → advance d q a *ℤ (rank b -ℤ rank q) +ℤ advance d q b *ℤ (rank q -ℤ rank a) ≡ turn a b q *ℤ slant d
unfolding turn rank turn_of rank_of advance slant
turn_by_advances o p r s =
    let d = var 0 in let d' = var 1 in let a = var 2 in let a' = var 3 in let b = var 4 in let b' = var 5 in let q = var 6 in let q' = var 7 in
    ring (o.e ∷ o.n ∷ p.e ∷ p.n ∷ r.e ∷ r.n ∷ s.e ∷ s.n ∷ [])
    ((d ⊗ (a ⊖ q) ⊕ d' ⊗ (a' ⊖ q')) ⊗ (rank_of b b' ⊖ rank_of q q') ⊕ (d ⊗ (b ⊖ q) ⊕ d' ⊗ (b' ⊖ q')) ⊗ (rank_of q q' ⊖ rank_of a a'))
    (turn_of a a' b b' q q' ⊗ (d ⊖ d' ⊗ num (pos rank_base))) tt

one_of : (x y m k : ℤ) → pos 0 ≤ℤ m → pos 0 ≤ℤ k → pos 0 <ℤ (m +ℤ k) → pos 0 ≤ℤ (x *ℤ m +ℤ y *ℤ k) → (pos 0 ≤ℤ x) ⊎ (pos 0 ≤ℤ y)
one_of x y m k hm hk hs h =
    by_lt_z x (pos 0)
    (λ lx. by_lt_z y (pos 0)
    (λ ly. absurd (omega (
      arith,
      linear,
      at_least_product m (neg_ℤ x) hm (omega (arith, linear)),
      at_least_product k (neg_ℤ y) hk (omega (arith, linear)),
      neg_product m x,
      neg_product k y,
      product_comm m x,
      product_comm k y,
    )))
    (λ gy. inr gy))
    (λ gx. inl gx)

reach_chord : (R : List Position) (d q a b : Position) → Contains R a → Contains R b → rank a <ℤ rank b → rank a ≤ℤ rank q → rank q ≤ℤ rank b
    → pos 0 ≤ℤ (turn a b q *ℤ slant d) → (s : Position) × Contains R s × (pos 0 ≤ℤ advance d q s)
reach_chord R d q a b ma mb ab aq qb h =
    elim (one_of (advance d q a) (advance d q b) (rank b -ℤ rank q) (rank q -ℤ rank a) (omega (arith, linear)) (omega (arith, linear)) (omega (arith, linear))
    (omega (arith, linear, turn_by_advances d a b q))) [
      | inl g ↦ (a, ma, g)
      | inr g ↦ (b, mb, g)
    ]

reach_self : (R : List Position) (d q : Position) → Contains R q → (s : Position) × Contains R s × (pos 0 ≤ℤ advance d q s)
unfolding advance
reach_self R d q m = (q, m, omega (arith, linear, nothing d.e (q.e -ℤ q.e) (omega (arith, linear)), nothing d.n (q.n -ℤ q.n) (omega (arith, linear))))
  where
    nothing : (x y : ℤ) → y ≡ pos 0 → x *ℤ y ≡ pos 0
    nothing x y e = ap (λ (z : ℤ). x *ℤ z) e ∙ omega (arith, ints)

-- in each direction a corner goes as far as what lies within both chains
pub reaches : {L U : List Position} → AreChains L U → (q : Position) → LiesWithin Lower L q → LiesWithin Upper U q → ReachesEveryWay (corners_of L U) q
reaches {L} {U} h q (on_corner i k e) u d = reach_self (corners_of L U) d q (subst (λ (p : Position). Contains (corners_of L U) p) (sym e) (in_lower L U i k))
reaches {L} {U} h q (on_chord i j ij k iq qj t) (on_corner x kx e) d =
    reach_self (corners_of L U) d q (subst (λ (p : Position). Contains (corners_of L U) p) (sym e) (in_upper h x kx))
reaches {L} {U} h q (on_chord i j ij k iq qj t) (on_chord x y xy ky xq qy u) d =
    let R = corners_of L U in
    by_lt_z (slant d) (pos 0)
    (λ lt. reach_chord R d q (at U x) (at U y) (in_upper h x (omega arith)) (in_upper h y ky) (h.upper.rising x y xy ky) xq qy
    (nonpos_nonpos (turn (at U x) (at U y) q) (slant d) (omega (arith, linear)) (omega (arith, linear))))
    (λ ge. reach_chord R d q (at L i) (at L j) (in_lower L U i (omega arith)) (in_lower L U j k) (h.lower.rising i j ij k) iq qj
    (nonneg_product (turn (at L i) (at L j) q) (slant d) t ge))

pub hull_polygon : {L U : List Position} → CoveringIsReaching → CoveringMembersAreCorners → AreChains L U → (S : List Position)
    → ((x : Position) → Contains (corners_of L U) x → Contains S x) → ((q : Position) → Contains S q → LiesWithin Lower L q)
    → ((q : Position) → Contains S q → LiesWithin Upper U q) → IsPolygon S (corners_of L U)
hull_polygon {L} {U} reaching corners h S sub below above =
    corners S (corners_of L U) sub (λ q m. (reaching (corners_of L U) q).1 (reaches h q (below q m) (above q m))) (all_distinct h) (least_first h)
    (all_turn_left h)

-- ---- a point was added to both chains
-- once p was added to both chains, their corners are the polygon of p and the corners before
pub polygon_extended : CoveringIsReaching → CoveringMembersAreCorners → (L U M V : List Position) (p : Position) → IsWithinLimits p → AreChains L U
    → Extends Lower L p M → Extends Upper U p V → IsPolygon (p ∷ corners_of L U) (corners_of M V)
polygon_extended reaching corners L U M V p hp h a b =
    let g = chains_extended L U M V p hp h a b in
    let S = p ∷ corners_of L U in
    hull_polygon reaching corners g S from_both
    (λ q m. elim (contained p (corners_of L U) q m) [
      | inl e ↦ subst (λ (x : Position). LiesWithin Lower M x) (sym e) a.takes
      | inr k ↦ a.keeps q (corner_in_lower h q k)
    ])
    (λ q m. elim (contained p (corners_of L U) q m) [
      | inl e ↦ subst (λ (x : Position). LiesWithin Upper V x) (sym e) b.takes
      | inr k ↦ b.keeps q (corner_in_upper h q k)
    ])
  where
    of_new : (x : Position) → x ≡ p → Contains (p ∷ corners_of L U) x
    of_new x e = (0, omega arith, sym e)

    of_old : (x : Position) → Contains (corners_of L U) x → Contains (p ∷ corners_of L U) x
    of_old x m = contains_later p (corners_of L U) x m

    from_both : (x : Position) → Contains (corners_of M V) x → Contains (p ∷ corners_of L U) x
    from_both x m = elim (source M V x m) [
      | of_lower i k e ↦ elim (a.members x (contains_at M x i k e)) [
        | inl f ↦ of_new x f
        | inr c ↦ of_old x (subst (λ (y : Position). Contains (corners_of L U) y) (get_or_default L c.0 origin x c.1 ∙ c.2) (in_lower L U c.0 c.1))
      ]
      | of_upper i s t e ↦ elim (b.members x (contains_at V x i (omega (arith, t)) e)) [
        | inl f ↦ of_new x f
        | inr c ↦ of_old x (subst (λ (y : Position). Contains (corners_of L U) y) (get_or_default U c.0 origin x c.1 ∙ c.2) (in_upper h c.0 c.1))
      ]
    ]

-- the corners are the polygon of themselves
pub own_polygon : {L U : List Position} → CoveringIsReaching → CoveringMembersAreCorners → AreChains L U → IsPolygon (corners_of L U) (corners_of L U)
own_polygon {L} {U} reaching corners h = hull_polygon reaching corners h (corners_of L U) (λ x m. m) (corner_in_lower h) (corner_in_upper h)

-- ---- the corners of the upper chain, one after another
-- with x, which is k before the end of the upper chain, the corners have one more of the inner corners read backwards
pub next_corner : (L U corners : List Position) (k : ℕ) (x : Position) → 2 ≤ k → k < length U → x ≡ at U (length U - k)
    → corners ≡ L ++ take (k - 2) (reverse (inner_corners U)) → corners ++ x ∷ [] ≡ L ++ take (k + 1 - 2) (reverse (inner_corners U))
next_corner L U corners k x least most r e =
    let i : ℕ = k - 2 in
    let n : length (inner_corners U) ≡ length U - 2 = length_inner U in
    let y : at (reverse (inner_corners U)) i ≡ x =
    get_or-reverse (inner_corners U) i origin (omega arith)
    ∙ get_or-take (length U - 2) (drop 1 U) (length (inner_corners U) - 1 - i) origin (omega arith)
    ∙ get_or-drop 1 U (length (inner_corners U) - 1 - i) origin
    ∙ ap (at U) (let f : 1 + (length (inner_corners U) - 1 - i) ≡ length U - k = omega arith in f)
    ∙ sym r in
    ap (λ (c : List Position). c ++ x ∷ []) e ∙ append_assoc L (take i (reverse (inner_corners U))) (x ∷ [])
    ∙ ap (λ (c : List Position). L ++ c) (sym (take_more (reverse (inner_corners U)) i origin (omega (arith, length-reverse (inner_corners U)))
    ∙ ap (λ (z : Position). take i (reverse (inner_corners U)) ++ z ∷ []) y))
    ∙ ap (λ (m : ℕ). L ++ take m (reverse (inner_corners U))) (let f : i + 1 ≡ k + 1 - 2 = omega arith in f)
