-- What a chain adds to the doubled area, and what a point that is put into it adds.
use Rattle.std.proofs.Common.{◌≡◌, refl, sym, ap, ◌∙◌, ℕ, suc, ◌+◌, ◌-◌, ◌<◌, ◌≤◌, ℤ, pos, ◌+ℤ◌, ◌-ℤ◌, ◌≤ℤ◌, ◌<ℤ◌, inl, inr, List, [], ◌∷◌, ◌++◌, length, take}
use Rattle.std.proofs.Common.{drop, reverse, get_or, cond, true, false, arith, append_assoc}
use Rattle.std.proofs.lemmas.Bool.{cases_lt}
use Rattle.std.proofs.lemmas.Int.{by_lt_z, ints}
use Rattle.std.proofs.lemmas.List.{append-nil, drop_all, take_all, take_more, drop_more, get_or_append_left, take-append-drop, reverse-append}
use Rattle.std.specs.Prelude.{int_lt}
use Rattle.range_plane.specs.Edges.{at}
use Rattle.range_plane.specs.Order.{rank}
use Rattle.range_plane.specs.Plane.{Position, origin, turn}
use Rattle.range_plane.specs.Polygon.{area2, shoelace}
use Rattle.range_lemmas.proofs.Integers.{linear}
use Rattle.range_lemmas.proofs.Ring.{Expr, var, num, ◌⊕◌, ◌⊖◌, ◌⊗◌, ring}
use Rattle.range_pieces.specs.Pieces.{exchange}
use Rattle.range_hull.specs.declared.side.Side.{Side}
use Rattle.range_hull.specs.declared.side.Side.TheVariants.{Lower, Upper}
use Rattle.range_hull.specs.Area.{wedge, path, with_sign, sweep_of, sweep_before, sweep_after, open_edge}
use Rattle.range_hull.specs.Chain.{bend, IsChain, LiesWithin}
use Rattle.range_hull.specs.Hull.{inner_corners, corners_of, AreChains}
use Rattle.range_hull.proofs.Bends.{turn_of}
use Rattle.range_hull.proofs.Chains.{ReplacesRun, within_between}
use Rattle.range_hull.proofs.Hulls.{length_corners}

wedge_of : Expr → Expr → Expr → Expr → Expr
wedge_of a a' b b' = a ⊗ b' ⊖ b ⊗ a'

turn_wedges : (a b c : Position) → turn a b c ≡ wedge a b +ℤ wedge b c -ℤ wedge a c
unfolding turn turn_of wedge wedge_of
turn_wedges p q r =
    let a = var 0 in let a' = var 1 in let b = var 2 in let b' = var 3 in let c = var 4 in let c' = var 5 in
    ring (p.e ∷ p.n ∷ q.e ∷ q.n ∷ r.e ∷ r.n ∷ []) (turn_of a a' b b' c c') (wedge_of a a' b b' ⊕ wedge_of b b' c c' ⊖ wedge_of a a' c c') tt

wedge_flip : (a b : Position) → wedge a b +ℤ wedge b a ≡ pos 0
unfolding wedge wedge_of
wedge_flip p q = ring (p.e ∷ p.n ∷ q.e ∷ q.n ∷ []) (wedge_of (var 0) (var 1) (var 2) (var 3) ⊕ wedge_of (var 2) (var 3) (var 0) (var 1)) (num (pos 0)) tt

wedge_self : (a : Position) → wedge a a ≡ pos 0
wedge_self a = omega (arith, linear, wedge_flip a a)

wedge_origin : (a : Position) → wedge a origin ≡ pos 0
unfolding wedge wedge_of
wedge_origin p = ring (p.e ∷ p.n ∷ []) (var 0 ⊗ num (pos 0) ⊖ num (pos 0) ⊗ var 1) (num (pos 0)) tt

path_join : (A : List Position) (a : Position) (B : List Position) → path (A ++ a ∷ B) ≡ path (A ++ a ∷ []) +ℤ path (a ∷ B)
path_join [] a B = omega (arith, linear)
path_join (x ∷ []) a B = omega (arith, linear)
path_join (x ∷ y ∷ A) a B = omega (arith, linear, path_join (y ∷ A) a B)

path_push : (A : List Position) (a b : Position) → path (A ++ a ∷ b ∷ []) ≡ path (A ++ a ∷ []) +ℤ wedge a b
path_push A a b = omega (arith, linear, path_join A a (b ∷ []))

-- the first k corners
path_take : (L : List Position) (k : ℕ) → 2 ≤ k → k ≤ length L → path (take k L) ≡ path (take (k - 1) L) +ℤ wedge (at L (k - 2)) (at L (k - 1))
path_take L k h l =
    let e : take (k - 1) L ≡ take (k - 2) L ++ at L (k - 2) ∷ [] = ap (λ (n : ℕ). take n L) (let f : k - 1 ≡ k - 2 + 1 = omega arith in f)
    ∙ take_more L (k - 2) origin (omega arith) in
    let g : take k L ≡ take (k - 1) L ++ at L (k - 1) ∷ [] = ap (λ (n : ℕ). take n L) (let f : k ≡ k - 1 + 1 = omega arith in f)
    ∙ take_more L (k - 1) origin (omega arith) in
    ap path (g ∙ ap (λ (M : List Position). M ++ at L (k - 1) ∷ []) e ∙ append_assoc (take (k - 2) L) (at L (k - 2) ∷ []) (at L (k - 1) ∷ []))
    ∙ path_push (take (k - 2) L) (at L (k - 2)) (at L (k - 1)) ∙ ap (λ (M : List Position). path M +ℤ wedge (at L (k - 2)) (at L (k - 1))) (sym e)

path_drop : (L : List Position) (k : ℕ) → k + 1 < length L → path (drop k L) ≡ wedge (at L k) (at L (k + 1)) +ℤ path (drop (k + 1) L)
path_drop L k h =
    let e = drop_more L k origin (omega arith) in
    let f = drop_more L (k + 1) origin h in
    ap path (e ∙ ap (λ (M : List Position). at L k ∷ M) f) ∙ ap (λ (M : List Position). wedge (at L k) (at L (k + 1)) +ℤ path M) (sym f)

-- where the last corner before p goes, the sweep up to p loses the bend at that corner
pub before_step : (side : Side) (L : List Position) (p : Position) (k : ℕ) → 2 ≤ k → k ≤ length L
    → sweep_before side L p (k - 1) ≡ sweep_before side L p k -ℤ bend side (at L (k - 2)) (at L (k - 1)) p
before_step Lower L p k h l =
    omega (
      arith,
      linear,
      path_take L k h l,
      turn_wedges (at L (k - 2)) (at L (k - 1)) p,
      ap (λ (n : ℕ). wedge (at L n) p) (let e : k - 1 - 1 ≡ k - 2 = omega arith in e),
    )
before_step Upper L p k h l =
    omega (
      arith,
      linear,
      path_take L k h l,
      turn_wedges (at L (k - 2)) (at L (k - 1)) p,
      ap (λ (n : ℕ). wedge (at L n) p) (let e : k - 1 - 1 ≡ k - 2 = omega arith in e),
    )

-- where the first corner after p goes, the sweep from p on loses the bend at that corner
pub after_step : (side : Side) (L : List Position) (p : Position) (k : ℕ) → k + 1 < length L
    → sweep_after side L p (k + 1) ≡ sweep_after side L p k -ℤ bend side p (at L k) (at L (k + 1))
after_step Lower L p k h = omega (arith, linear, path_drop L k h, turn_wedges p (at L k) (at L (k + 1)))
after_step Upper L p k h = omega (arith, linear, path_drop L k h, turn_wedges p (at L k) (at L (k + 1)))

-- ---- the chain with p in it
take_last : (L : List Position) (k : ℕ) → 0 < k → k ≤ length L → take k L ≡ take (k - 1) L ++ at L (k - 1) ∷ []
take_last L k h l = ap (λ (n : ℕ). take n L) (let f : k ≡ k - 1 + 1 = omega arith in f) ∙ take_more L (k - 1) origin (omega arith)

path_before : (L M : List Position) (p : Position) (k : ℕ) → 0 < k → k ≤ length L
    → path (take k L ++ p ∷ M) ≡ path (take k L) +ℤ wedge (at L (k - 1)) p +ℤ path (p ∷ M)
path_before L M p k h l =
    let e = take_last L k h l in
    let g = ap path (ap (λ (N : List Position). N ++ p ∷ []) e ∙ append_assoc (take (k - 1) L) (at L (k - 1) ∷ []) (p ∷ []))
    ∙ path_push (take (k - 1) L) (at L (k - 1)) p in
    omega (arith, linear, path_join (take k L) p M, g, ap path e)

path_after : (L : List Position) (p : Position) (k : ℕ) → k < length L → path (p ∷ drop k L) ≡ wedge p (at L k) +ℤ path (drop k L)
path_after L p k h =
    let e = drop_more L k origin h in
    ap (λ (M : List Position). path (p ∷ M)) e ∙ ap (λ (M : List Position). wedge p (at L k) +ℤ path M) (sym e)

path_end : (L : List Position) (p : Position) (k : ℕ) → length L ≤ k → path (p ∷ drop k L) ≡ pos 0
path_end L p k h = ap (λ (M : List Position). path (p ∷ M)) (drop_all k L h)

path_split : (L : List Position) (k : ℕ) → 0 < k → k < length L → path L ≡ path (take k L) +ℤ wedge (at L (k - 1)) (at L k) +ℤ path (drop k L)
path_split L k h l =
    let e = drop_more L k origin l in
    ap path (sym (take-append-drop k L) ∙ ap (λ (M : List Position). take k L ++ M) e) ∙ path_before L (drop (k + 1) L) (at L k) k h (omega arith)
    ∙ ap (λ (M : List Position). path (take k L) +ℤ wedge (at L (k - 1)) (at L k) +ℤ path M) (sym e)

-- ---- the edge to a point beyond the ends
edge_first : (f l p : Position) → rank p <ℤ rank f → open_edge f l p ≡ wedge p f
edge_first f l p h = ap (λ b. cond b (wedge p f) (cond (int_lt (rank l) (rank p)) (wedge l p) (pos 0)))
    (let e : int_lt (rank p) (rank f) ≡ true = grind (arith, ints) in e)

edge_last : (f l p : Position) → rank f ≤ℤ rank p → rank l <ℤ rank p → open_edge f l p ≡ wedge l p
edge_last f l p h k =
    ap (λ b. cond b (wedge p f) (cond (int_lt (rank l) (rank p)) (wedge l p) (pos 0))) (let e : int_lt (rank p) (rank f) ≡ false = grind (arith, ints) in e)
    ∙ ap (λ b. cond b (wedge l p) (pos 0)) (let e : int_lt (rank l) (rank p) ≡ true = grind (arith, ints) in e)

edge_none : (f l p : Position) → rank f ≤ℤ rank p → rank p ≤ℤ rank l → open_edge f l p ≡ pos 0
edge_none f l p h k =
    ap (λ b. cond b (wedge p f) (cond (int_lt (rank l) (rank p)) (wedge l p) (pos 0))) (let e : int_lt (rank p) (rank f) ≡ false = grind (arith, ints) in e)
    ∙ ap (λ b. cond b (wedge l p) (pos 0)) (let e : int_lt (rank l) (rank p) ≡ false = grind (arith, ints) in e)

edge_origin : (p : Position) → open_edge origin origin p ≡ pos 0
edge_origin p =
    by_lt_z (rank p) (rank origin) (λ h. edge_first origin origin p h ∙ wedge_origin p)
    (λ h. by_lt_z (rank origin) (rank p) (λ k. edge_last origin origin p h k ∙ omega (arith, linear, wedge_flip p origin, wedge_origin p))
    (λ k. edge_none origin origin p h k))

-- ---- how the doubled area grows
-- the doubled area before and after each step of an insertion, at the index where p falls
pub record Grows (side : Side) (L : List Position) (p : Position) (from index to : ℕ) (a b c d : ℤ) : Type 0 where
  pub outside : 0 < index → index < length L → b ≡ a +ℤ bend side (at L (index - 1)) p (at L index)
  pub at_first : index ≡ 0 → b ≡ a
  pub at_last : index ≡ length L → b ≡ a
  pub before : 0 < index → c -ℤ sweep_before side L p from ≡ b -ℤ sweep_before side L p index
  pub none_before : index ≡ 0 → c ≡ b
  pub after : index < length L → d -ℤ sweep_after side L p to ≡ c -ℤ sweep_after side L p index
  pub none_after : index ≡ length L → d ≡ c

grown_between : (side : Side) (L : List Position) (p : Position) (from index to : ℕ) (a b c d : ℤ) → ReplacesRun side L p from index to
    → Grows side L p from index to a b c d → 0 < index → index < length L → d +ℤ sweep_of side L ≡ a +ℤ sweep_of side (exchange L p from to)
grown_between Lower L p from index to a b c d t g h k =
    omega (
      arith,
      linear,
      g.outside h k,
      g.before h,
      g.after k,
      path_before L (drop to L) p from (t.starts h) (omega (arith, t.low)),
      path_after L p to (t.stops k),
      path_split L index h k,
      turn_wedges (at L (index - 1)) p (at L index),
    )
grown_between Upper L p from index to a b c d t g h k =
    omega (
      arith,
      linear,
      g.outside h k,
      g.before h,
      g.after k,
      path_before L (drop to L) p from (t.starts h) (omega (arith, t.low)),
      path_after L p to (t.stops k),
      path_split L index h k,
      turn_wedges (at L (index - 1)) p (at L index),
    )

grown_first : (side : Side) (L : List Position) (p : Position) (from index to : ℕ) (a b c d : ℤ) → ReplacesRun side L p from index to
    → Grows side L p from index to a b c d → index ≡ 0 → 0 < length L
    → d +ℤ sweep_of side L +ℤ with_sign side (wedge p (at L 0)) ≡ a +ℤ sweep_of side (exchange L p from to)
grown_first Lower L p from index to a b c d t g z k =
    let f : from ≡ 0 = omega (arith, t.low, z) in
    omega (
      arith,
      linear,
      g.at_first z,
      g.none_before z,
      g.after (omega (arith, z, k)),
      path_after L p to (t.stops (omega (arith, z, k))),
      ap (λ (n : ℕ). path (take n L ++ p ∷ drop to L)) f,
      ap (λ (n : ℕ). wedge p (at L n) +ℤ path (drop n L)) z,
    )
grown_first Upper L p from index to a b c d t g z k =
    let f : from ≡ 0 = omega (arith, t.low, z) in
    omega (
      arith,
      linear,
      g.at_first z,
      g.none_before z,
      g.after (omega (arith, z, k)),
      path_after L p to (t.stops (omega (arith, z, k))),
      ap (λ (n : ℕ). path (take n L ++ p ∷ drop to L)) f,
      ap (λ (n : ℕ). wedge p (at L n) +ℤ path (drop n L)) z,
    )

grown_empty : (side : Side) (p : Position) (from to : ℕ) → sweep_of side [] ≡ sweep_of side (exchange [] p from to)
grown_empty Lower p from to = omega (
  arith,
  linear,
  ap (λ (M : List Position). path (M ++ p ∷ drop to [])) (take_all from [] (omega arith)),
  path_end [] p to (omega arith),
)
grown_empty Upper p from to = omega (
  arith,
  linear,
  ap (λ (M : List Position). path (M ++ p ∷ drop to [])) (take_all from [] (omega arith)),
  path_end [] p to (omega arith),
)

grown_last : (side : Side) (L : List Position) (p : Position) (from index to : ℕ) (a b c d : ℤ) → ReplacesRun side L p from index to
    → Grows side L p from index to a b c d → 0 < index → index ≡ length L
    → d +ℤ sweep_of side L +ℤ with_sign side (wedge (at L (length L - 1)) p) ≡ a +ℤ sweep_of side (exchange L p from to)
grown_last Lower L p from index to a b c d t g h e =
    omega (
      arith,
      linear,
      g.at_last e,
      g.before h,
      g.none_after e,
      path_before L (drop to L) p from (t.starts h) (omega (arith, t.low, e)),
      path_end L p to (omega (arith, t.high, e)),
      ap path (take_all index L (omega (arith, e))),
      ap (λ (n : ℕ). wedge (at L (n - 1)) p) e,
    )
grown_last Upper L p from index to a b c d t g h e =
    omega (
      arith,
      linear,
      g.at_last e,
      g.before h,
      g.none_after e,
      path_before L (drop to L) p from (t.starts h) (omega (arith, t.low, e)),
      path_end L p to (omega (arith, t.high, e)),
      ap path (take_all index L (omega (arith, e))),
      ap (λ (n : ℕ). wedge (at L (n - 1)) p) e,
    )

with_sign_naught : (side : Side) → with_sign side (pos 0) ≡ pos 0
with_sign_naught Lower = refl
with_sign_naught Upper = refl

grown_so : (x y : ℤ) (side : Side) (e f : ℤ) → e ≡ f → x +ℤ with_sign side f ≡ y → x +ℤ with_sign side e ≡ y
grown_so x y side e f h g = ap (λ (z : ℤ). x +ℤ with_sign side z) h ∙ g

grown_from : (side : Side) (L : List Position) (p : Position) (from index to : ℕ) (a b c d : ℤ) → ReplacesRun side L p from index to
    → Grows side L p from index to a b c d → 0 < length L → d +ℤ sweep_of side L +ℤ with_sign side (open_edge (at L 0) (at L (length L - 1)) p) ≡ a +ℤ sweep_of side
    (exchange L p from to)
grown_from side L p from index to a b c d t g k =
    elim (cases_lt 0 index) [
      | inr z ↦ grown_so (d +ℤ sweep_of side L) (a +ℤ sweep_of side (exchange L p from to)) side _ _ (edge_first (at L 0) (at L (length L - 1)) p (t.after 0 z k))
          (grown_first side L p from index to a b c d t g (omega (arith, z)) k)
      | inl s ↦ elim (cases_lt index (length L)) [
        | inl l ↦ grown_so (d +ℤ sweep_of side L) (a +ℤ sweep_of side (exchange L p from to)) side _ _
            (edge_none (at L 0) (at L (length L - 1)) p (let u : rank (at L 0) <ℤ rank p = t.before 0 s in omega (arith, linear))
            (let u : rank p <ℤ rank (at L (length L - 1)) = t.after (length L - 1) (omega (arith, l)) (omega arith) in omega (arith, linear)))
            (omega (arith, linear, with_sign_naught side, grown_between side L p from index to a b c d t g s l))
        | inr m ↦
            let e : index ≡ length L = omega (arith, m, t.high, t.within) in
            grown_so (d +ℤ sweep_of side L) (a +ℤ sweep_of side (exchange L p from to)) side _ _
            (edge_last (at L 0) (at L (length L - 1)) p (let u : rank (at L 0) <ℤ rank p = t.before 0 s in omega (arith, linear))
            (t.before (length L - 1) (omega (arith, e, k))))
            (grown_last side L p from index to a b c d t g s e)
      ]
    ]

-- with p in place of a run the sweep gains what the area gained on the way, and the open edge to p where p is a new end
pub grown : (side : Side) (L : List Position) (p : Position) (from index to : ℕ) (a b c d : ℤ) → ReplacesRun side L p from index to
    → Grows side L p from index to a b c d → d +ℤ sweep_of side L +ℤ with_sign side (open_edge (at L 0) (at L (length L - 1)) p) ≡ a +ℤ sweep_of side
    (exchange L p from to)
grown side [] p from index to a b c d t g =
    let z : index ≡ 0 = omega (arith, t.high, t.within) in
    grown_so (d +ℤ sweep_of side []) (a +ℤ sweep_of side (exchange [] p from to)) side _ _ (edge_origin p)
    (omega (arith, linear, with_sign_naught side, grown_empty side p from to, g.at_first z, g.none_before z, g.none_after z))
grown side (x ∷ L) p from index to a b c d t g = grown_from side (x ∷ L) p from index to a b c d t g (omega arith)

-- a point within the chain adds nothing
pub not_grown : {side : Side} {L : List Position} → IsChain side L → (p : Position) (a : ℤ) → LiesWithin side L p
    → a +ℤ sweep_of side L +ℤ with_sign side (open_edge (at L 0) (at L (length L - 1)) p) ≡ a +ℤ sweep_of side L
not_grown {side} {L} c p a h =
    let b = within_between c p h in
    grown_so (a +ℤ sweep_of side L) (a +ℤ sweep_of side L) side _ _ (edge_none (at L 0) (at L (length L - 1)) p b.first b.last)
    (omega (arith, linear, with_sign_naught side))

-- ---- the doubled area of the corners
abbrev last_of : Position → List Position → Position
last_of a [] = a
last_of a (b ∷ L) = last_of b L

shoelace_path : (f a : Position) (L : List Position) → shoelace f (a ∷ L) ≡ path (a ∷ L) +ℤ wedge (last_of a L) f
unfolding wedge
shoelace_path f a [] = omega (arith, linear)
shoelace_path f a (b ∷ L) = omega (arith, linear, shoelace_path f b L)

area2_path : (a : Position) (L : List Position) → area2 (a ∷ L) ≡ path (a ∷ L) +ℤ wedge (last_of a L) a
area2_path a [] = omega (arith, linear, wedge_self a)
area2_path a (b ∷ []) = omega (arith, linear, wedge_flip a b)
area2_path a (b ∷ c ∷ L) = shoelace_path a a (b ∷ c ∷ L)

path_closed : (a : Position) (L : List Position) (z : Position) → path (a ∷ L ++ z ∷ []) ≡ path (a ∷ L) +ℤ wedge (last_of a L) z
path_closed a [] z = omega (arith, linear)
path_closed a (b ∷ L) z = omega (arith, linear, path_closed b L z)

-- from a list that begins with z, back to z
area2_closed : (R : List Position) (z : Position) → (0 < length R → at R 0 ≡ z) → area2 R ≡ path (R ++ z ∷ [])
area2_closed [] z h = refl
area2_closed (a ∷ L) z h =
    area2_path a L ∙ ap (λ (x : Position). path (a ∷ L) +ℤ wedge (last_of a L) x) (h (omega arith)) ∙ sym (path_closed a L z)

path_reverse : (L : List Position) → path (reverse L) +ℤ path L ≡ pos 0
path_reverse [] = refl
path_reverse (a ∷ []) = refl
path_reverse (a ∷ b ∷ L) =
    let e : reverse (a ∷ b ∷ L) ≡ reverse (b ∷ L) ++ a ∷ [] = reverse-append (a ∷ []) (b ∷ L) in
    let f : reverse (b ∷ L) ≡ reverse L ++ b ∷ [] = reverse-append (b ∷ []) L in
    let g : path (reverse (a ∷ b ∷ L)) ≡ path (reverse L ++ b ∷ []) +ℤ wedge b a =
    ap path (e ∙ ap (λ (M : List Position). M ++ a ∷ []) f ∙ append_assoc (reverse L) (b ∷ []) (a ∷ [])) ∙ path_push (reverse L) b a in
    let h : path (reverse (b ∷ L)) ≡ path (reverse L ++ b ∷ []) = ap path f in
    omega (arith, linear, path_reverse (b ∷ L), wedge_flip a b)

whole_last : (L : List Position) → 0 < length L → L ≡ take (length L - 1) L ++ at L (length L - 1) ∷ []
whole_last L h = sym (take_all (length L) L (omega arith)) ∙ take_last L (length L) h (omega arith)

-- a chain by its ends and what is between them
by_ends : (U : List Position) → 2 ≤ length U → U ≡ at U 0 ∷ (inner_corners U ++ at U (length U - 1) ∷ [])
by_ends [] h = absurd (omega arith)
by_ends (u ∷ V) h =
    ap (λ (M : List Position). u ∷ M)
    (whole_last V (omega arith)
    ∙ ap (λ (n : ℕ). take n V ++ at V (length V - 1) ∷ []) (let e : length V - 1 ≡ length (u ∷ V) - 2 = omega arith in e)
    ∙ ap (λ (n : ℕ). take (length (u ∷ V) - 2) V ++ get_or (u ∷ V) n origin ∷ []) (let e : suc (length V - 1) ≡ length (u ∷ V) - 1 = omega arith in e))

back : (U : List Position) → 2 ≤ length U → reverse U ≡ at U (length U - 1) ∷ (reverse (inner_corners U) ++ at U 0 ∷ [])
back U h =
    let I = inner_corners U in let a = at U 0 in let z = at U (length U - 1) in
    ap reverse (by_ends U h) ∙ reverse-append (a ∷ []) (I ++ z ∷ []) ∙ ap (λ (M : List Position). M ++ a ∷ []) (reverse-append I (z ∷ []))

-- along the lower chain and back along the upper one
round : {L U : List Position} → AreChains L U → 2 ≤ length U → path (corners_of L U ++ at L 0 ∷ []) ≡ path L -ℤ path U
round {L} {U} h k =
    let l = at L (length L - 1) in
    let some : 0 < length L = elim (cases_lt 0 (length L)) [ inl s ↦ s | inr z ↦ absurd (omega (arith, k, h.upper_empty (omega (arith, z)))) ] in
    let whole = whole_last L some in
    let rest : l ∷ (reverse (inner_corners U) ++ at L 0 ∷ []) ≡ reverse U =
    ap (λ (x : Position). x ∷ (reverse (inner_corners U) ++ at L 0 ∷ [])) h.last ∙ ap (λ (x : Position). at U (length U - 1) ∷ (reverse (inner_corners U) ++ x ∷ [])) h.first
    ∙ sym (back U k) in
    let e : path (corners_of L U ++ at L 0 ∷ []) ≡ path (take (length L - 1) L ++ l ∷ []) +ℤ path (reverse U) =
    ap path (append_assoc L (reverse (inner_corners U)) (at L 0 ∷ [])
    ∙ ap (λ (M : List Position). M ++ (reverse (inner_corners U) ++ at L 0 ∷ [])) whole
    ∙ append_assoc (take (length L - 1) L) (l ∷ []) (reverse (inner_corners U) ++ at L 0 ∷ []))
    ∙ path_join (take (length L - 1) L) l (reverse (inner_corners U) ++ at L 0 ∷ [])
    ∙ ap (λ (M : List Position). path (take (length L - 1) L ++ l ∷ []) +ℤ path M) rest in
    omega (arith, linear, ap path whole, path_reverse U)

short_path : (L : List Position) → length L ≤ 1 → path L ≡ pos 0
short_path [] h = refl
short_path (a ∷ []) h = refl
short_path (a ∷ b ∷ L) h = absurd (omega arith)

short_closed : (L : List Position) → length L ≤ 1 → path (L ++ at L 0 ∷ []) ≡ pos 0
short_closed [] h = refl
short_closed (a ∷ []) h = omega (arith, linear, wedge_self a)
short_closed (a ∷ b ∷ L) h = absurd (omega arith)

-- with one corner in the upper chain there is one in the lower
lower_short : {L U : List Position} → AreChains L U → length U ≤ 1 → length L ≤ 1
lower_short {L} {U} h k =
    elim (cases_lt 1 (length L)) [
      | inr g ↦ g
      | inl l ↦ absurd (
          let u : rank (at L 0) <ℤ rank (at L (length L - 1)) = h.lower.rising 0 (length L - 1) (omega (arith, l)) (omega (arith, l)) in
          let e : rank (at L 0) ≡ rank (at L (length L - 1)) = ap rank (h.first ∙ ap (at U) (let f : 0 ≡ length U - 1 = omega (arith, k) in f) ∙ sym h.last) in
          omega (arith, linear))
    ]

-- the doubled area of a polygon is what its two chains sweep
pub hull_area : {L U : List Position} → AreChains L U → area2 (corners_of L U) ≡ sweep_of Lower L +ℤ sweep_of Upper U
hull_area {L} {U} h =
    area2_closed (corners_of L U) (at L 0) begins
    ∙ elim (cases_lt (length U) 2) [
      | inr g ↦ (let e = round h g in omega (arith, linear))
      | inl l ↦
          let k : length L ≤ 1 = lower_short h (omega (arith, l)) in
          let e : corners_of L U ≡ L = ap (λ (n : ℕ). L ++ reverse (take n (drop 1 U))) (let f : length U - 2 ≡ 0 = omega (arith, l) in f) ∙ append-nil L in
          ap (λ (R : List Position). path (R ++ at L 0 ∷ [])) e ∙ omega (arith, linear, short_closed L k, short_path L k, short_path U (omega (arith, l)))
    ]
  where
    begins : 0 < length (corners_of L U) → at (corners_of L U) 0 ≡ at L 0
    begins s = elim (cases_lt 0 (length L)) [
      | inl l ↦ get_or_append_left L (reverse (inner_corners U)) origin 0 l
      | inr z ↦ absurd (omega (arith, s, z, length_corners L U, h.upper_empty (omega (arith, z))))
    ]

-- what both chains add, where each adds the edge to p as often as the other takes it off
pub area_extended : (L U M V : List Position) (a b c : ℤ) → AreChains L U → (p : Position) → a ≡ sweep_of Lower L +ℤ sweep_of Upper U
    → b +ℤ sweep_of Lower L +ℤ with_sign Lower (open_edge (at L 0) (at L (length L - 1)) p) ≡ a +ℤ sweep_of Lower M
    → c +ℤ sweep_of Upper U +ℤ with_sign Upper (open_edge (at U 0) (at U (length U - 1)) p) ≡ b +ℤ sweep_of Upper V → c ≡ sweep_of Lower M +ℤ sweep_of Upper V
area_extended L U M V a b c h p e f g =
    let same : open_edge (at L 0) (at L (length L - 1)) p ≡ open_edge (at U 0) (at U (length U - 1)) p =
    ap (λ (x : Position). open_edge x (at L (length L - 1)) p) h.first ∙ ap (λ (x : Position). open_edge (at U 0) x p) h.last in
    omega (arith, linear)
