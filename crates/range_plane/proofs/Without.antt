-- The members of a set without one of them.
use Rattle.std.proofs.Common.{◌≡◌, ◌≢◌, refl, sym, ap, ◌∙◌, subst, suc, ◌<◌, ◌≤◌, length, List, [], ◌∷◌, Contains, ◌⊎◌, inl, inr, arith, Bool, true, false}
use Rattle.std.proofs.Common.{cond, ◌&&◌, true≢false, int_eq}
use Rattle.std.specs.Bool.{Decides}
use Rattle.std.specs.Cmp.{signed_Decides}
use Rattle.range_plane.specs.Plane.{Position}
use Rattle.range_plane.specs.Polygon.{same_position, without}
use Rattle.range_lemmas.proofs.Members.{contains_first, contains_later, empty_contains_nothing, contained}

pub data Compared (a b : Position) : Bool → Type 0 where
  equal : a ≡ b → Compared a b true
  different : a ≢ b → Compared a b false

-- points with the same coordinates are one
pub both_coordinates : (a b : Position) → a.e ≡ b.e → a.n ≡ b.n → a ≡ b
both_coordinates a b p q = λ i. record { e = p i; n = q i }

from_coordinates : (a b : Position) (s t : Bool) → Decides s (a.e ≡ b.e) → Decides t (a.n ≡ b.n) → Compared a b (s && t)
from_coordinates a b true true p q = equal (both_coordinates a b (p.0 refl) (q.0 refl))
from_coordinates a b true false p q = different (λ e. true≢false (sym (q.1 (ap (λ (x : Position). x.n) e))))
from_coordinates a b false t p q = different (λ e. true≢false (sym (p.1 (ap (λ (x : Position). x.e) e))))

-- what the test of two points says of them
pub compared : (a b : Position) → Compared a b (same_position a b)
compared a b = from_coordinates a b (int_eq a.e b.e) (int_eq a.n b.n) (signed_Decides a.e b.e) (signed_Decides a.n b.n)

-- two points are one or differ
pub equal_or_apart : (a b : Position) → (a ≡ b) ⊎ (a ≢ b)
equal_or_apart a b = go (same_position a b) (compared a b)
  where
    go : (t : Bool) → Compared a b t → (a ≡ b) ⊎ (a ≢ b)
    go true (equal e) = inl e
    go false (different d) = inr d

-- ---- without p
keeps_case : (p s x : Position) (S : List Position) (t : Bool) → Compared s p t → x ≢ p → (Contains S x → Contains (without p S) x) → Contains (s ∷ S) x
    → Contains (cond t (without p S) (s ∷ without p S)) x
keeps_case p s x S true (equal e) d f m = elim (contained s S x m) [ inl h ↦ absurd (d (h ∙ e)) | inr k ↦ f k ]
keeps_case p s x S false (different a) d f m = elim (contained s S x m) [
  | inl h ↦ subst (λ z. Contains (z ∷ without p S) x) h (contains_first x (without p S))
  | inr k ↦ contains_later s (without p S) x (f k)
]

-- the other members stay
pub without_keeps : (p : Position) (S : List Position) (x : Position) → x ≢ p → Contains S x → Contains (without p S) x
without_keeps p [] x d m = absurd (empty_contains_nothing x m)
without_keeps p (s ∷ S) x d m = keeps_case p s x S (same_position s p) (compared s p) d (without_keeps p S x d) m

within_case : (p s x : Position) (S : List Position) (t : Bool) → Compared s p t → (Contains (without p S) x → Contains S x × (x ≢ p))
    → Contains (cond t (without p S) (s ∷ without p S)) x → Contains (s ∷ S) x × (x ≢ p)
within_case p s x S true (equal e) f m = (contains_later s S x (f m).0, (f m).1)
within_case p s x S false (different a) f m = elim (contained s (without p S) x m) [
  | inl h ↦
      (subst (λ z. Contains (z ∷ S) x) h (contains_first x S), λ e. a (sym h ∙ e))
  | inr k ↦ (contains_later s S x (f k).0, (f k).1)
]

-- what stays is a member and not p
pub without_has : (p : Position) (S : List Position) (x : Position) → Contains (without p S) x → Contains S x × (x ≢ p)
without_has p [] x m = absurd (empty_contains_nothing x m)
without_has p (s ∷ S) x m = within_case p s x S (same_position s p) (compared s p) (without_has p S x) m

length_case : (p s : Position) (S : List Position) (t : Bool) → length (without p S) ≤ length S
    → length (cond t (without p S) (s ∷ without p S)) ≤ suc (length S)
length_case p s S true h = omega arith
length_case p s S false h = omega arith

pub length_without : (p : Position) (S : List Position) → length (without p S) ≤ length S
length_without p [] = omega arith
length_without p (s ∷ S) = length_case p s S (same_position s p) (length_without p S)

shorter_case : (p s : Position) (S : List Position) (t : Bool) → Compared s p t → (Contains S p → length (without p S) < length S) → Contains (s ∷ S) p
    → length (cond t (without p S) (s ∷ without p S)) < suc (length S)
shorter_case p s S true (equal e) f m = omega (arith, length_without p S)
shorter_case p s S false (different a) f m = elim (contained s S p m) [ inl h ↦ absurd (a (sym h)) | inr k ↦ omega (arith, f k) ]

-- without a member there are fewer
pub shorter_without : (p : Position) (S : List Position) → Contains S p → length (without p S) < length S
shorter_without p [] m = absurd (empty_contains_nothing p m)
shorter_without p (s ∷ S) m = shorter_case p s S (same_position s p) (compared s p) (shorter_without p S) m

-- a point is a member or it is not
pub find_member : (p : Position) (S : List Position) → Contains S p ⊎ ¬ (Contains S p)
find_member p [] = inr (λ m. empty_contains_nothing p m)
find_member p (s ∷ S) = go (equal_or_apart p s) (find_member p S)
  where
    go : (p ≡ s) ⊎ (p ≢ s) → Contains S p ⊎ ¬ (Contains S p) → Contains (s ∷ S) p ⊎ ¬ (Contains (s ∷ S) p)
    go (inl e) f = inl (subst (λ z. Contains (z ∷ S) p) e (contains_first p S))
    go (inr d) (inl m) = inl (contains_later s S p m)
    go (inr d) (inr k) = inr (λ m. elim (contained s S p m) [ inl h ↦ d h | inr l ↦ k l ])
