-- Where every three members of a list turn left, each of them is extreme; so such a list is the polygon of each set that it is a part of and covers.
use Rattle.std.proofs.Common.{◌≡◌, ◌≢◌, sym, ap, ◌∙◌, subst, ℕ, zero, suc, ◌+◌, ◌<◌, ◌≤◌, length, get_or, pos, ◌≤ℤ◌, ◌<ℤ◌, List, [], ◌∷◌, Contains, AllPairs}
use Rattle.std.proofs.Common.{◌⊎◌, inl, inr, arith}
use Rattle.std.proofs.lemmas.List.{get_or_default}
use Rattle.range_plane.specs.ConvexCover.{Covers}
use Rattle.range_plane.specs.Plane.{Position, turn}
use Rattle.range_plane.specs.Polygon.{without, BeginsWithLeast, TurnsLeft, IsPolygon}
use Rattle.range_lemmas.proofs.Integers.{linear}
use Rattle.range_lemmas.proofs.Members.{empty_contains_nothing, contained}
use Rattle.range_plane.proofs.Separation.{not_both}
use Rattle.range_plane.proofs.Extremes.{CoversEach, covers_member, extreme_in}
use Rattle.range_plane.proofs.HalfPlanes.{in_half_plane, in_order, turn_back}
use Rattle.range_plane.proofs.Vectors.{dot, from, turn_swap, turn_cycle, turn_self, turn_end, positive_apart}
use Rattle.range_plane.proofs.Without.{without_has}

-- the half plane that a and b bound holds every corner but x
beyond : (L : List Position) (a b x : Position) → turn a b x <ℤ pos 0 → ((y : Position) → Contains L y → y ≢ x → pos 0 ≤ℤ turn a b y)
    → ¬ (Covers (without x L) x)
beyond L a b x h f c = omega (arith, linear, in_half_plane (without x L) a b x (λ y m. let w = without_has x L y m in f y w.0 w.1) c)

-- ---- the members by their indices
abbrev pub at : List Position → Position → ℕ → Position
at L d k = get_or L k d

pub strictly_outside : (L : List Position) (d : Position) → TurnsLeft L → (i j m : ℕ) → i < j → j < length L → m < length L → (m < i) ⊎ (j < m)
    → pos 0 <ℤ turn (at L d i) (at L d j) (at L d m)
strictly_outside L d t i j m l n o (inl h) = let p = t m i j d h l n in omega (arith, linear, turn_cycle (at L d m) (at L d i) (at L d j))
strictly_outside L d t i j m l n o (inr h) = t i j m d l h o

pub strictly_inside : (L : List Position) (d : Position) → TurnsLeft L → (i j m : ℕ) → i < m → m < j → j < length L
    → turn (at L d i) (at L d j) (at L d m) <ℤ pos 0
strictly_inside L d t i j m l n o = let p = t i m j d l n o in omega (arith, linear, turn_swap (at L d i) (at L d m) (at L d j))

outside : (L : List Position) (d : Position) → TurnsLeft L → (i j m : ℕ) → i < j → j < length L → m < length L → (m < i) ⊎ ((m ≡ i) ⊎ (i < m)) → (m < j)
    ⊎ ((m ≡ j) ⊎ (j < m)) → (i < m → m < j → ⊥) → pos 0 ≤ℤ turn (at L d i) (at L d j) (at L d m)
outside L d t i j m l n o (inl h) w f = let p = strictly_outside L d t i j m l n o (inl h) in omega (arith, linear)
outside L d t i j m l n o (inr (inl e)) w f = subst (λ z. pos 0 ≤ℤ turn (at L d i) (at L d j) (at L d z)) (sym e)
    (omega (arith, linear, turn_self (at L d i) (at L d j)))
outside L d t i j m l n o (inr (inr h)) (inl w) f = absurd (f h w)
outside L d t i j m l n o (inr (inr h)) (inr (inl e)) f = subst (λ z. pos 0 ≤ℤ turn (at L d i) (at L d j) (at L d z)) (sym e)
    (omega (arith, linear, turn_end (at L d i) (at L d j)))
outside L d t i j m l n o (inr (inr h)) (inr (inr w)) f = let p = strictly_outside L d t i j m l n o (inr w) in omega (arith, linear)

between_is_left : (L : List Position) (d : Position) → TurnsLeft L → (i j m : ℕ) → j < length L → i ≤ m → m ≤ j → (m < i) ⊎ ((m ≡ i) ⊎ (i < m)) → (m < j)
    ⊎ ((m ≡ j) ⊎ (j < m)) → pos 0 ≤ℤ turn (at L d j) (at L d i) (at L d m)
between_is_left L d t i j m n a b (inl h) w = absurd (omega arith)
between_is_left L d t i j m n a b (inr (inl e)) w = subst (λ z. pos 0 ≤ℤ turn (at L d j) (at L d i) (at L d z)) (sym e)
    (omega (arith, linear, turn_end (at L d j) (at L d i)))
between_is_left L d t i j m n a b (inr (inr h)) (inl w) = let p = strictly_inside L d t i j m h w n in
    omega (arith, linear, turn_back (at L d i) (at L d j) (at L d m))
between_is_left L d t i j m n a b (inr (inr h)) (inr (inl e)) = subst (λ z. pos 0 ≤ℤ turn (at L d j) (at L d i) (at L d z)) (sym e)
    (omega (arith, linear, turn_self (at L d j) (at L d i)))
between_is_left L d t i j m n a b (inr (inr h)) (inr (inr w)) = absurd (omega arith)

-- ---- each corner is needed
-- the other members are at other indices
elsewhere : (L : List Position) (d : Position) (k : ℕ) (P : Position → Type 0) → ((m : ℕ) → m < length L → (m ≡ k → ⊥) → P (at L d m)) → (y : Position)
    → Contains L y → y ≢ at L d k → P y
elsewhere L d k P f y m a =
    let same : at L d m.0 ≡ y = get_or_default L m.0 d y m.1 ∙ m.2 in
    subst P same (f m.0 m.1 (λ e. a (sym same ∙ ap (at L d) e)))

middle_needed : (L : List Position) (d : Position) → TurnsLeft L → (k : ℕ) → k + 2 < length L → ¬ (Covers (without (at L d (k + 1)) L) (at L d (k + 1)))
middle_needed L d t k l =
    beyond L (at L d k) (at L d (k + 2)) (at L d (k + 1)) (strictly_inside L d t k (k + 2) (k + 1) (omega arith) (omega arith) l)
    (elsewhere L d (k + 1) (λ y. pos 0 ≤ℤ turn (at L d k) (at L d (k + 2)) y)
    (λ m n a. outside L d t k (k + 2) m (omega arith) l n (in_order m k) (in_order m (k + 2)) (λ h w. a (omega arith))))

first_needed : (L : List Position) (d : Position) → TurnsLeft L → (n : ℕ) → length L ≡ n + 3 → ¬ (Covers (without (at L d 0) L) (at L d 0))
first_needed L d t n l =
    let p = t 0 1 (n + 2) d (omega arith) (omega arith) (omega arith) in
    beyond L (at L d (n + 2)) (at L d 1) (at L d 0) (omega (
      arith,
      linear,
      turn_back (at L d 1) (at L d (n + 2)) (at L d 0),
      turn_cycle (at L d 0) (at L d 1) (at L d (n + 2)),
    ))
    (elsewhere L d 0 (λ y. pos 0 ≤ℤ turn (at L d (n + 2)) (at L d 1) y)
    (λ m h a. between_is_left L d t 1 (n + 2) m (omega arith) (omega arith) (omega arith) (in_order m 1) (in_order m (n + 2))))

last_needed : (L : List Position) (d : Position) → TurnsLeft L → (n : ℕ) → length L ≡ n + 3 → ¬ (Covers (without (at L d (n + 2)) L) (at L d (n + 2)))
last_needed L d t n l =
    let p = t 0 (n + 1) (n + 2) d (omega arith) (omega arith) (omega arith) in
    beyond L (at L d (n + 1)) (at L d 0) (at L d (n + 2)) (omega (arith, linear, turn_back (at L d 0) (at L d (n + 1)) (at L d (n + 2))))
    (elsewhere L d (n + 2) (λ y. pos 0 ≤ℤ turn (at L d (n + 1)) (at L d 0) y)
    (λ m h a. between_is_left L d t 0 (n + 1) m (omega arith) (omega arith) (omega arith) (in_order m 0) (in_order m (n + 1))))

index_needed : (L : List Position) (d : Position) → TurnsLeft L → (n : ℕ) → length L ≡ n + 3 → (k : ℕ) → k < length L → (k < n + 2)
    ⊎ ((k ≡ n + 2) ⊎ (n + 2 < k)) → ¬ (Covers (without (at L d k) L) (at L d k))
index_needed L d t n l zero h w = first_needed L d t n l
index_needed L d t n l (suc k) h (inl w) = let e : k + 1 ≡ suc k = omega arith in
    subst (λ z. ¬ (Covers (without (at L d z) L) (at L d z))) e (middle_needed L d t k (omega arith))
index_needed L d t n l (suc k) h (inr (inl e)) = subst (λ z. ¬ (Covers (without (at L d z) L) (at L d z))) (sym e) (last_needed L d t n l)
index_needed L d t n l (suc k) h (inr (inr w)) = absurd (omega arith)

-- one other member does not cover x
one_other : (L : List Position) (x z : Position) → z ≢ x → ((y : Position) → Contains L y → y ≢ x → y ≡ z) → ¬ (Covers (without x L) x)
one_other L x z a f c =
    not_both (without x L) x (from x z) c (λ y m. let w = without_has x L y m in
    subst (λ v. pos 0 <ℤ dot (from x z) (from x v)) (sym (f y w.0 w.1)) (positive_apart x z (λ e. a (sym e))))

pub corner_needed : (L : List Position) → TurnsLeft L → AllPairs (λ a b. a ≢ b) L → (x : Position) → Contains L x → ¬ (Covers (without x L) x)
corner_needed [] t p x m = absurd (empty_contains_nothing x m)
corner_needed (a ∷ []) t p x m = λ c. not_both (without x (a ∷ [])) x x c
    (λ y l. let w = without_has x (a ∷ []) y l in absurd (w.1 (only y w.0 ∙ sym (only x m))))
  where
    only : (y : Position) → Contains (a ∷ []) y → y ≡ a
    only y l = elim (contained a [] y l) [ inl e ↦ e | inr k ↦ absurd (empty_contains_nothing y k) ]
corner_needed (a ∷ b ∷ []) t p x m = go (contained a (b ∷ []) x m)
  where
    differ : a ≢ b
    differ = p 0 1 a (omega arith) (omega arith)

    second : (y : Position) → Contains (b ∷ []) y → y ≡ b
    second y l = elim (contained b [] y l) [ inl e ↦ e | inr k ↦ absurd (empty_contains_nothing y k) ]

    go : (x ≡ a) ⊎ Contains (b ∷ []) x → ¬ (Covers (without x (a ∷ b ∷ [])) x)
    go (inl e) = one_other (a ∷ b ∷ []) x b (λ h. differ (sym e ∙ sym h))
        (λ y l n. elim (contained a (b ∷ []) y l) [ inl g ↦ absurd (n (g ∙ sym e)) | inr k ↦ second y k ])
    go (inr l) = let e = second x l in one_other (a ∷ b ∷ []) x a (λ h. differ (h ∙ e))
        (λ y k n. elim (contained a (b ∷ []) y k) [ inl g ↦ g | inr j ↦ absurd (n (second y j ∙ sym e)) ])
corner_needed (a ∷ b ∷ c ∷ L) t p x m =
    subst (λ z. ¬ (Covers (without z (a ∷ b ∷ c ∷ L)) z)) m.2 (index_needed (a ∷ b ∷ c ∷ L) x t (length L) (omega arith) m.0 m.1 (in_order m.0 (length L + 2)))

-- ---- the polygon of each set that such a list is a part of and covers
-- members that cover the set, without repeats, from the least and turning left are the corners of its polygon
pub polygon_by_covering : (S L : List Position) → ((x : Position) → Contains L x → Contains S x) → CoversEach L S → AllPairs (λ a b. a ≢ b) L
    → BeginsWithLeast L → TurnsLeft L → IsPolygon S L
polygon_by_covering S L sub covers distinct least convex =
    record {
      corners = λ x. (
        λ m. extreme_in L S x covers back (record { member = m; needed = corner_needed L convex distinct x m }),
        λ e. (extreme_in S L x back covers e).member,
      );
      distinct = distinct;
      least_first = least;
      convex = convex;
    }
  where
    back : CoversEach S L
    back x m = covers_member S x (sub x m)
