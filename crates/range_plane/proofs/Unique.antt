-- A set has one polygon.
use Rattle.std.proofs.Common.{◌≡◌, ◌≢◌, refl, sym, ap₂, ◌∙◌, subst, suc, pos, ◌<ℤ◌, List, [], ◌∷◌, Contains, AllPairs, ◌⊎◌, inl, inr, arith, suc-le-suc}
use Rattle.range_plane.specs.Plane.{Position, turn, IsAtMost}
use Rattle.range_plane.specs.Polygon.{TurnsLeft, IsPolygon}
use Rattle.range_lemmas.proofs.Integers.{linear}
use Rattle.range_lemmas.proofs.Members.{contains_first, contains_later, empty_contains_nothing, contained}
use Rattle.range_plane.proofs.Vectors.{turn_swap}
use Rattle.range_plane.proofs.Without.{both_coordinates}

-- ---- every pair, by the head and the rest
-- what is true of each two members is true of the first and each later one
pub from_head : {X : Type 0} (R : X → X → Type 0) (y : X) (xs : List X) → AllPairs R (y ∷ xs) → (x : X) → Contains xs x → R y x
from_head R y xs h x m = subst (R y) m.2 (h 0 (suc m.0) x (omega arith) (suc-le-suc m.1))

-- what is true of each two members is true of each two without the first
pub in_rest : {X : Type 0} (R : X → X → Type 0) (y : X) (xs : List X) → AllPairs R (y ∷ xs) → AllPairs R xs
in_rest R y xs h i j d l m = h (suc i) (suc j) d (suc-le-suc l) (suc-le-suc m)

-- the members after c, in list order, go counterclockwise round c
pub round_head : (c : Position) (L : List Position) → TurnsLeft (c ∷ L) → AllPairs (λ x y. pos 0 <ℤ turn c x y) L
round_head c L h i j d l m = h 0 (suc i) (suc j) d (omega arith) (suc-le-suc l) (suc-le-suc m)

-- ---- two lists in the order of an asymmetric relation, with the same members
module _ {X : Type 0} (R : X → X → Type 0) (asymmetric : (x y : X) → R x y → R y x → ⊥) where
  same_head : (x y : X) (xs ys : List X) → AllPairs R (x ∷ xs) → AllPairs R (y ∷ ys) → (x ≡ y) ⊎ Contains ys x → (y ≡ x) ⊎ Contains xs y → x ≡ y
  same_head x y xs ys h k (inl e) w = e
  same_head x y xs ys h k (inr m) (inl e) = sym e
  same_head x y xs ys h k (inr m) (inr l) = absurd (asymmetric x y (from_head R x xs h y l) (from_head R y ys k x m))

  members_after : (x y : X) (xs ys : List X) → AllPairs R (x ∷ xs) → x ≡ y → ((z : X) → Contains (x ∷ xs) z → Contains (y ∷ ys) z) → (z : X) → Contains xs z
      → Contains ys z
  members_after x y xs ys h e f z m = elim (contained y ys z (f z (contains_later x xs z m))) [ inl g ↦ absurd (itself (e ∙ sym g)) | inr l ↦ l ]
    where
      itself : x ≡ z → ⊥
      itself g = let r : R x z = from_head R x xs h z m in let s : R x x = subst (R x) (sym g) r in asymmetric x x s s

  pub same_order : (xs ys : List X) → AllPairs R xs → AllPairs R ys → ((z : X) → Contains xs z → Contains ys z) → ((z : X) → Contains ys z → Contains xs z)
      → xs ≡ ys
  same_order [] [] h k f g = refl
  same_order [] (y ∷ ys) h k f g = absurd (empty_contains_nothing y (g y (contains_first y ys)))
  same_order (x ∷ xs) [] h k f g = absurd (empty_contains_nothing x (f x (contains_first x xs)))
  same_order (x ∷ xs) (y ∷ ys) h k f g =
      let e : x ≡ y = same_head x y xs ys h k (contained y ys x (f x (contains_first x xs))) (contained x xs y (g y (contains_first y ys))) in
      ap₂ (λ a l. a ∷ l) e (same_order xs ys (in_rest R x xs h) (in_rest R y ys k) (members_after x y xs ys h e f) (members_after y x ys xs k (sym e) g))

-- ---- one polygon
-- two points of which neither is after the other are one
pub least_alone : (a b : Position) → IsAtMost a b → IsAtMost b a → a ≡ b
least_alone a b (inl h) (inl k) = absurd (omega (arith, linear))
least_alone a b (inl h) (inr k) = absurd (omega (arith, linear))
least_alone a b (inr h) (inl k) = absurd (omega (arith, linear))
least_alone a b (inr h) (inr k) = let f = h.1 in let g = k.1 in both_coordinates a b h.0 (omega (arith, linear))

not_both_ways : (c x y : Position) → pos 0 <ℤ turn c x y → pos 0 <ℤ turn c y x → ⊥
not_both_ways c x y h k = omega (arith, linear, turn_swap c x y)

rest_members : (c : Position) (L M : List Position) → AllPairs (λ a b. a ≢ b) (c ∷ L) → ((x : Position) → Contains (c ∷ L) x → Contains (c ∷ M) x)
    → (x : Position) → Contains L x → Contains M x
rest_members c L M d f x m = elim (contained c M x (f x (contains_later c L x m))) [ inl e ↦ absurd (from_head (λ a b. a ≢ b) c L d x m (sym e)) | inr k ↦ k ]

same_rest : (S : List Position) (c : Position) (L M : List Position) → IsPolygon S (c ∷ L) → IsPolygon S (c ∷ M) → L ≡ M
same_rest S c L M p q =
    same_order (λ x y. pos 0 <ℤ turn c x y) (not_both_ways c) L M (round_head c L p.convex) (round_head c M q.convex)
    (rest_members c L M p.distinct (λ x m. (q.corners x).1 ((p.corners x).0 m)))
    (rest_members c M L q.distinct (λ x m. (p.corners x).1 ((q.corners x).0 m)))

-- a set has at most one polygon
pub one_polygon : (S L M : List Position) → IsPolygon S L → IsPolygon S M → L ≡ M
one_polygon S [] [] p q = refl
one_polygon S [] (b ∷ M) p q = absurd (empty_contains_nothing b ((p.corners b).1 ((q.corners b).0 (contains_first b M))))
one_polygon S (a ∷ L) [] p q = absurd (empty_contains_nothing a ((q.corners a).1 ((p.corners a).0 (contains_first a L))))
one_polygon S (a ∷ L) (b ∷ M) p q =
    let ab : IsAtMost a b = p.least_first b ((p.corners b).1 ((q.corners b).0 (contains_first b M))) in
    let ba : IsAtMost b a = q.least_first a ((q.corners a).1 ((p.corners a).0 (contains_first a L))) in
    let e : a ≡ b = least_alone a b ab ba in
    ap₂ (λ c l. c ∷ l) e (same_rest S a L M p (subst (λ c. IsPolygon S (c ∷ M)) (sym e) q))
