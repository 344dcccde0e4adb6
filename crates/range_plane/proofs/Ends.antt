-- No polygon covers a point before its first corner or after its last in order; and what the search for a point's edges answers.
use Rattle.std.proofs.Common.{◌≡◌, ◌≢◌, refl, sym, subst, ℕ, ◌<◌, pos, ◌<ℤ◌, ◌⊎◌, inl, inr, Bool, true, false, not, IsTrue, List, [], ◌∷◌, length, Contains}
use Rattle.std.proofs.Common.{arith}
use Rattle.std.specs.Bool.{OnFalse, OnTrue}
use Rattle.range_plane.specs.ConvexCover.{Covers, is_covered}
use Rattle.range_plane.specs.Edges.{at, IsTop}
use Rattle.range_plane.specs.Plane.{Position, IsAtMost, IsBefore}
use Rattle.range_plane.specs.Polygon.{BeginsWithLeast}
use Rattle.range_plane.proofs.Decided.{covered_decided}
use Rattle.range_plane.proofs.Extremes.{covers_member}
use Rattle.range_lemmas.proofs.Members.{contains_first, contains_later, empty_contains_nothing}
use Rattle.range_plane.proofs.RisingDirection.{rising}
use Rattle.range_plane.proofs.AtMost.{at_most_one_way, at_most_itself, through_most}
use Rattle.range_plane.proofs.Separation.{not_both}
use Rattle.range_plane.proofs.SmallSets.{covers_none}
use Rattle.range_plane.proofs.SpanningEdges.{at_member}
use Rattle.range_plane.proofs.Unique.{least_alone}
use Rattle.range_plane.proofs.Vectors.{dot_reverse, reverse_of}
use Rattle.range_plane.proofs.Without.{equal_or_apart}

pub not_before_first : (L : List Position) (q m : Position) → ((x : Position) → Contains L x → IsAtMost m x) → IsBefore q m → ¬ (Covers L q)
not_before_first L q m least h c = not_both L q (rising (q ∷ L)).direction c
    (λ x k. (rising (q ∷ L)).ahead q x (contains_first q L) (contains_later q L x k) (through_most q m x h.0 (least x k))
    (λ e. h.1 (least_alone q m h.0 (subst (IsAtMost m) (sym e) (least x k)))))

pub not_after_last : (L : List Position) (q m : Position) → ((x : Position) → Contains L x → IsAtMost x m) → IsBefore m q → ¬ (Covers L q)
not_after_last L q m greatest h c =
    let d = (rising (q ∷ L)).direction in
    not_both L q (reverse_of d) c (λ x k. subst (λ z. pos 0 <ℤ z) (sym (dot_reverse d q x))
    ((rising (q ∷ L)).ahead x q (contains_later q L x k) (contains_first q L) (through_most x m q (greatest x k) h.0)
    (λ e. h.1 (least_alone m q h.0 (subst (λ z. IsAtMost z m) e (greatest x k))))))

-- no corner comes before the first
pub first_least : (L : List Position) → BeginsWithLeast L → (x : Position) → Contains L x → IsAtMost (at L 0) x
first_least [] b x m = absurd (empty_contains_nothing x m)
first_least (c ∷ L) b x m = b x m

-- of two points a is not after b, or b is before a
pub at_most_or_before : (a b : Position) → IsAtMost a b ⊎ IsBefore b a
at_most_or_before a b = go (at_most_one_way a b) (equal_or_apart b a)
  where
    go : IsAtMost a b ⊎ IsAtMost b a → (b ≡ a) ⊎ (b ≢ a) → IsAtMost a b ⊎ IsBefore b a
    go (inl h) w = inl h
    go (inr h) (inl e) = inl (subst (λ z. IsAtMost z b) e (at_most_itself b))
    go (inr h) (inr n) = inr (h, n)

false_apart : IsTrue false → ⊥
false_apart e = cc

-- the answers of the search, by what is known of the point
pub not_covered : (L : List Position) (q : Position) → ¬ (Covers L q) → false ≡ is_covered L q
not_covered L q n = none (is_covered L q) (λ e. n ((covered_decided L q).0 e))
  where
    none : (b : Bool) → (b ≡ true → ⊥) → false ≡ b
    none true f = absurd (f refl)
    none false f = refl

-- an answer that is true exactly where L covers q is the test of it
pub is_decided : (L : List Position) (q : Position) (b : Bool) → (IsTrue b → Covers L q) → (Covers L q → IsTrue b) → b ≡ is_covered L q
is_decided L q true to back = sym ((covered_decided L q).1 (to refl))
is_decided L q false to back = not_covered L q (λ c. false_apart (back c))

-- the answer for a list of no corners is false
pub nothing_covered : (L : List Position) (q : Position) → length L ≡ 0 → false ≡ is_covered L q
nothing_covered [] q e = not_covered [] q (covers_none q)
nothing_covered (x ∷ L) q e = absurd (omega arith)

-- a point that is not before the top is covered where the top is not before it
pub top_covered : (L : List Position) (top : ℕ) (q : Position) (b : Bool) → IsTop L top → 0 < length L → IsAtMost (at L top) q
    → OnTrue b (IsBefore (at L top) q) → OnFalse b (IsAtMost q (at L top)) → not b ≡ is_covered L q
top_covered L top q true t h a yes' no' = not_covered L q (not_after_last L q (at L top) t.greatest yes')
top_covered L top q false t h a yes' no' = sym ((covered_decided L q).1
    (subst (Covers L) (least_alone (at L top) q a no') (covers_member L (at L top) (at_member L top (t.within h)))))

-- a point that is not after the first corner is covered where the first is not after it
pub first_covered : (L : List Position) (q : Position) (b : Bool) → BeginsWithLeast L → 0 < length L → IsAtMost q (at L 0) → OnTrue b (IsBefore q (at L 0))
    → OnFalse b (IsAtMost (at L 0) q) → not b ≡ is_covered L q
first_covered L q true l h a yes' no' = not_covered L q (not_before_first L q (at L 0) (first_least L l) yes')
first_covered L q false l h a yes' no' = sym ((covered_decided L q).1
    (subst (Covers L) (least_alone (at L 0) q no' a) (covers_member L (at L 0) (at_member L 0 h))))
