-- What no point, one point and two points cover.
use Rattle.std.proofs.Common.{◌≡◌, sym, ◌∙◌, subst, pos, ◌-ℤ◌, ◌≤ℤ◌, ◌<ℤ◌, ◌↔◌, [], ◌∷◌, Contains, ◌⊎◌, inl, inr, arith}
use Rattle.range_plane.specs.ConvexCover.{scalar_product, Covers, IsOnSegment, IsInTriangle}
use Rattle.range_plane.specs.Plane.{Position, turn}
use Rattle.range_plane.specs.ConvexCover.Covers.{by_segment, by_triangle}
use Rattle.range_lemmas.proofs.Integers.{linear, product_comm}
use Rattle.range_lemmas.proofs.Members.{contains_first, contains_later, empty_contains_nothing, contained}
use Rattle.range_plane.proofs.Extremes.{covers_member}
use Rattle.range_plane.proofs.HalfPlanes.{turn_back}
use Rattle.range_plane.proofs.Vectors.{from, scalar_product_is, dot_origin, turn_self, turn_end, turn_swap, positive_apart}
use Rattle.range_plane.proofs.Without.{equal_or_apart}

-- no point is covered by no points
pub covers_none : (q : Position) → ¬ (Covers [] q)
covers_none q (by_segment a b ma mb s) = empty_contains_nothing a ma
covers_none q (by_triangle a b c ma mb mc t) = empty_contains_nothing a ma

only_itself : (q a : Position) → IsOnSegment q a a → q ≡ a
only_itself q a s = elim (equal_or_apart q a) [ inl e ↦ e | inr n ↦ absurd (omega (arith, linear, positive_apart q a n, scalar_product_is q a a, s.between)) ]

no_flat_triangle : (q a b c : Position) → (a ≡ b) ⊎ ((b ≡ c) ⊎ (a ≡ c)) → IsInTriangle q a b c → ⊥
no_flat_triangle q a b c (inl e) t = let h : pos 0 <ℤ turn b b c = subst (λ z. pos 0 <ℤ turn z b c) e t.proper in
    omega (arith, linear, turn_swap b b c, turn_self b c)
no_flat_triangle q a b c (inr (inl e)) t = let h : pos 0 <ℤ turn a c c = subst (λ z. pos 0 <ℤ turn a z c) e t.proper in omega (arith, linear, turn_end a c)
no_flat_triangle q a b c (inr (inr e)) t = let h : pos 0 <ℤ turn c b c = subst (λ z. pos 0 <ℤ turn z b c) e t.proper in omega (arith, linear, turn_self c b)

-- a member of a list of one is that one
pub one_of_one : (a x : Position) → Contains (a ∷ []) x → x ≡ a
one_of_one a x m = elim (contained a [] x m) [ inl e ↦ e | inr k ↦ absurd (empty_contains_nothing x k) ]

-- one point covers itself alone
pub covers_one : (a q : Position) → Covers (a ∷ []) q ↔ (q ≡ a)
covers_one a q = (to, λ e. subst (Covers (a ∷ [])) (sym e) (covers_member (a ∷ []) a (contains_first a [])))
  where
    to : Covers (a ∷ []) q → q ≡ a
    to (by_segment x y mx my s) = only_itself q a (subst (λ z. IsOnSegment q z a) (one_of_one a x mx) (subst (IsOnSegment q x) (one_of_one a y my) s))
    to (by_triangle x y z mx my mz t) = absurd (no_flat_triangle q x y z (inl (one_of_one a x mx ∙ sym (one_of_one a y my))) t)

one_of_two : (a b x : Position) → Contains (a ∷ b ∷ []) x → (x ≡ a) ⊎ (x ≡ b)
one_of_two a b x m = elim (contained a (b ∷ []) x m) [ inl e ↦ inl e | inr k ↦ inr (one_of_one b x k) ]

same_scalar_product : (q a b : Position) → scalar_product q a b ≡ scalar_product q b a
unfolding scalar_product
same_scalar_product q a b = omega (arith, linear, product_comm (a.e -ℤ q.e) (b.e -ℤ q.e), product_comm (a.n -ℤ q.n) (b.n -ℤ q.n))

turned_about : (q a b : Position) → IsOnSegment q b a → IsOnSegment q a b
turned_about q a b s =
    let straight : turn b a q ≡ pos 0 = s.straight in
    let between : scalar_product q b a ≤ℤ pos 0 = s.between in
    record { straight = omega (arith, linear, turn_back a b q); between = omega (arith, linear, same_scalar_product q a b) }

at_first : (a b : Position) → IsOnSegment a a b
at_first a b = record { straight = turn_self a b; between = omega (arith, linear, same_scalar_product a a b, scalar_product_is a b a, dot_origin a (from a b)) }

-- two points cover the segment between them
pub covers_two : (a b q : Position) → Covers (a ∷ b ∷ []) q ↔ IsOnSegment q a b
covers_two a b q = (to, λ s. by_segment a b (contains_first a (b ∷ [])) (contains_later a (b ∷ []) b (contains_first b [])) s)
  where
    at_a : q ≡ a → IsOnSegment q a b
    at_a e = subst (λ z. IsOnSegment z a b) (sym e) (at_first a b)

    at_b : q ≡ b → IsOnSegment q a b
    at_b e = turned_about q a b (subst (λ z. IsOnSegment z b a) (sym e) (at_first b a))

    segment : (x y : Position) → (x ≡ a) ⊎ (x ≡ b) → (y ≡ a) ⊎ (y ≡ b) → IsOnSegment q x y → IsOnSegment q a b
    segment x y (inl e) (inl f) s = at_a (only_itself q a (subst (λ z. IsOnSegment q z a) e (subst (IsOnSegment q x) f s)))
    segment x y (inl e) (inr f) s = subst (λ z. IsOnSegment q z b) e (subst (IsOnSegment q x) f s)
    segment x y (inr e) (inl f) s = turned_about q a b (subst (λ z. IsOnSegment q z a) e (subst (IsOnSegment q x) f s))
    segment x y (inr e) (inr f) s = at_b (only_itself q b (subst (λ z. IsOnSegment q z b) e (subst (IsOnSegment q x) f s)))

    two_equal : (x y z : Position) → (x ≡ a) ⊎ (x ≡ b) → (y ≡ a) ⊎ (y ≡ b) → (z ≡ a) ⊎ (z ≡ b) → (x ≡ y) ⊎ ((y ≡ z) ⊎ (x ≡ z))
    two_equal x y z (inl e) (inl f) g = inl (e ∙ sym f)
    two_equal x y z (inr e) (inr f) g = inl (e ∙ sym f)
    two_equal x y z (inl e) (inr f) (inl g) = inr (inr (e ∙ sym g))
    two_equal x y z (inl e) (inr f) (inr g) = inr (inl (f ∙ sym g))
    two_equal x y z (inr e) (inl f) (inl g) = inr (inl (f ∙ sym g))
    two_equal x y z (inr e) (inl f) (inr g) = inr (inr (e ∙ sym g))

    to : Covers (a ∷ b ∷ []) q → IsOnSegment q a b
    to (by_segment x y mx my s) = segment x y (one_of_two a b x mx) (one_of_two a b y my) s
    to (by_triangle x y z mx my mz t) = absurd (no_flat_triangle q x y z (two_equal x y z (one_of_two a b x mx) (one_of_two a b y my) (one_of_two a b z mz)) t)
