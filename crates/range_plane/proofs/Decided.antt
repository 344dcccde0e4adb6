-- The test whether a set covers a point decides it.
use Rattle.std.proofs.Common.{◌≡◌, sym, subst, T, pos, ℤ, ◌≤ℤ◌, ◌<ℤ◌, ◌⊎◌, inl, inr, Bool, true, false, refl, List, [], ◌∷◌, Contains}
use Rattle.std.specs.Bool.{Decides}
use Rattle.std.specs.Prelude.{int_le, int_lt}
use Rattle.std.specs.Cmp.{signed_Decides}
use Rattle.std.specs.List.{list_any}
use Rattle.std.proofs.lemmas.Bool.Decides.{Decides-and, Decides-like, Decides-or}
use Rattle.range_plane.specs.ConvexCover.{Covers, IsInTriangle, IsOnSegment, scalar_product, is_covered, is_in_triangle, is_on_segment}
use Rattle.range_plane.specs.ConvexCover.Covers.{by_segment, by_triangle}
use Rattle.range_plane.specs.Plane.{Position, turn}
use Rattle.range_plane.specs.Polygon.{same_position}
use Rattle.range_lemmas.proofs.Members.{contains_first, contains_later, empty_contains_nothing, contained}
use Rattle.range_plane.proofs.Without.{Compared, compared}
use Rattle.range_plane.proofs.Without.Compared.{different, equal}

true_from : (b : Bool) → T b → b ≡ true
true_from true h = refl
true_from false h = absurd h

pub at_most_decided : (a b : ℤ) → Decides (int_le a b) (a ≤ℤ b)
at_most_decided a b = (λ e. record { le = subst T (sym e) tt }, λ h. true_from (int_le a b) h.le)

pub below_decided : (a b : ℤ) → Decides (int_lt a b) (a <ℤ b)
below_decided a b = (λ e. record { lt = subst T (sym e) tt }, λ h. true_from (int_lt a b) h.lt)

-- some member passes a test
some_decided : (p : Position → Bool) (P : Position → Type 0) → ((x : Position) → Decides (p x) (P x)) → (S : List Position)
    → Decides (list_any p S) ((x : Position) × Contains S x × P x)
some_decided p P each [] = (λ e. cc e, λ w. absurd (empty_contains_nothing w.0 w.1))
some_decided p P each (s ∷ S) = Decides-like (list_any p (s ∷ S)) to back (Decides-or (p s) (list_any p S) (each s) (some_decided p P each S))
  where
    to : P s ⊎ ((x : Position) × Contains S x × P x) → (x : Position) × Contains (s ∷ S) x × P x
    to (inl h) = (s, contains_first s S, h)
    to (inr w) = (w.0, contains_later s S w.0 w.1, w.2)

    back : ((x : Position) × Contains (s ∷ S) x × P x) → P s ⊎ ((x : Position) × Contains S x × P x)
    back w = elim (contained s S w.0 w.1) [ inl e ↦ inl (subst P e w.2) | inr m ↦ inr (w.0, m, w.2) ]

-- the test of a segment is true exactly on it
pub segment_decided : (q a b : Position) → Decides (is_on_segment q a b) (IsOnSegment q a b)
segment_decided q a b =
    Decides-like (is_on_segment q a b) (λ h. record { straight = h.0; between = h.1 }) (λ s. (s.straight, s.between))
    (Decides-and _ _ (signed_Decides (turn a b q) (pos 0)) (at_most_decided (scalar_product q a b) (pos 0)))

pub triangle_decided : (q a b c : Position) → Decides (is_in_triangle q a b c) (IsInTriangle q a b c)
triangle_decided q a b c =
    Decides-like (is_in_triangle q a b c) (λ h. record { proper = h.0.0.0; first = h.0.0.1; second = h.0.1; third = h.1 })
    (λ t. (((t.proper, t.first), t.second), t.third))
    (Decides-and _ _ (Decides-and _ _ (Decides-and _ _ (below_decided (pos 0) (turn a b c)) (at_most_decided (pos 0) (turn a b q)))
    (at_most_decided (pos 0) (turn b c q))) (at_most_decided (pos 0) (turn c a q)))

-- the test of a set is true exactly where the set covers the point
pub covered_decided : (S : List Position) (q : Position) → Decides (is_covered S q) (Covers S q)
unfolding is_covered
covered_decided S q =
    Decides-like (is_covered S q) to back (Decides-or _ _
    (some_decided _ _ (λ a. some_decided _ _ (λ b. segment_decided q a b) S) S)
    (some_decided _ _ (λ a. some_decided _ _ (λ b. some_decided _ _ (λ c. triangle_decided q a b c) S) S) S))
  where
    BySegment : Type 0
    BySegment = (a : Position) × Contains S a × ((b : Position) × Contains S b × IsOnSegment q a b)

    ByTriangle : Type 0
    ByTriangle = (a : Position) × Contains S a × ((b : Position) × Contains S b × ((c : Position) × Contains S c × IsInTriangle q a b c))

    to : BySegment ⊎ ByTriangle → Covers S q
    to (inl w) = by_segment w.0 w.2.0 w.1 w.2.1 w.2.2
    to (inr w) = by_triangle w.0 w.2.0 w.2.2.0 w.1 w.2.1 w.2.2.1 w.2.2.2

    back : Covers S q → BySegment ⊎ ByTriangle
    back (by_segment a b ma mb s) = inl (a, ma, (b, mb, s))
    back (by_triangle a b c ma mb mc t) = inr (a, ma, (b, mb, (c, mc, t)))

-- the test whether a list has a member
pub member_decided : (S : List Position) (p : Position) → Decides (list_any (λ s. same_position s p) S) (Contains S p)
member_decided S p = Decides-like (list_any (λ s. same_position s p) S) (λ w. subst (Contains S) w.2 w.1) (λ m. (p, m, refl))
    (some_decided (λ s. same_position s p) (λ s. s ≡ p) same S)
  where
    by : (s : Position) (t : Bool) → Compared s p t → Decides t (s ≡ p)
    by s true (equal e) = (λ _. e, λ _. refl)
    by s false (different d) = (λ h. cc h, λ e. absurd (d e))

    same : (s : Position) → Decides (same_position s p) (s ≡ p)
    same s = by s (same_position s p) (compared s p)
