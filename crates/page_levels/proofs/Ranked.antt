-- Points in the order of their distances from the mean of all.
use Rattle.std.proofs.Common.{◌≡◌, ◌∙◌, ℕ, zero, suc, ◌+◌, ◌<◌, ◌≤◌, Bool, true, false, cond, nat_lt, List, [], ◌∷◌, length, get_or, map, take, drop, filter, refl, sym, ap, subst, arith}
use Rattle.std.specs.Cmp.{IsStrictWeakOrder}
use Rattle.std.specs.List.{All, AllByRecursion, IsDistinct, range_with_len}
use Rattle.std.specs.List.Sorted.{IsPermutation, IsSortedBy}
use Rattle.std.specs.Ordering.{is_lt, nat_cmp, ordering_then}
use Rattle.std.proofs.lemmas.Bool.Decides.{nat_tests}
use Rattle.std.proofs.lemmas.List.{get_or-drop, get_or-take, length-drop, length-map, length-take, take-map}
use Rattle.std.proofs.lemmas.List.Elements.{All-from_recursion}
use Rattle.std.proofs.lemmas.List.Folds.{fold-map}
use Rattle.std.proofs.lemmas.List.FromFn.{length-range_with_len}
use Rattle.std.proofs.lemmas.List.Sorted.{All-permutation, IsPermutation-map, length_permutation, sorted_far}
use Rattle.std.proofs.lemmas.Simd.{map-map}
use Rattle.range_plane.specs.Edges.{at}
use Rattle.range_plane.specs.Plane.{Position}
use Rattle.range_stats.specs.Percent.{AreNearestFirst, comes_before, distance, entry, indices, nearest, nearest_points}
use Rattle.range_stats.proofs.FirstEntries.{Entry, IsApart, filter_map, nearest_are_first, rank_in, same_index}
use Rattle.range_stats.proofs.RankIndices.{entries}

-- whether one entry comes before another, as pairs of numbers do
abbrev pub before : Entry → Entry → Bool
before a b = is_lt (ordering_then (nat_cmp a.0 b.0) (nat_cmp a.1 b.1))

same_order : (a b : Entry) → before a b ≡ comes_before a b
same_order a b = grind (arith, nat_tests)

one_way : (a b : Entry) → comes_before a b ≡ true → comes_before b a ≡ false
one_way a b h = grind (arith, nat_tests)

chain : (a b c : Entry) → comes_before a b ≡ false → comes_before b c ≡ false → comes_before a c ≡ false
chain a b c h k = grind (arith, nat_tests)

strict : IsStrictWeakOrder before
strict = record {
  one_way = λ a b h. same_order b a ∙ one_way a b (sym (same_order a b) ∙ h);
  chain = λ a b c h k. same_order a c ∙ chain a b c (sym (same_order a b) ∙ h) (sym (same_order b c) ∙ k);
}

-- of entries in order none behind others comes before one of them
sorted_apart : (sorted : List Entry) (k : ℕ) → IsSortedBy before sorted → IsApart (take k sorted) (drop k sorted)
sorted_apart sorted k rising i d within j e inside =
    let first : i < k = omega (arith, within, length-take k sorted) in
    let last : k + j < length sorted = omega (arith, inside, length-drop k sorted) in
    let a = get_or (take k sorted) i d in
    let far = sorted_far before strict sorted rising i (k + j) e (omega (arith, first)) last in
    sym (same_order (get_or (drop k sorted) j e) a)
    ∙ ap (λ b. before b a) (get_or-drop k sorted j e)
    ∙ ap (before (get_or sorted (k + j) e)) (get_or-take k sorted i d first ∙ same_member sorted i d e (omega (arith, first, last)))
    ∙ far
  where
    same_member : (xs : List Entry) (i : ℕ) (d e : Entry) → i < length xs → get_or xs i d ≡ get_or xs i e
    same_member [] i d e h = absurd (omega (arith, h))
    same_member (x ∷ xs) zero d e h = refl
    same_member (x ∷ xs) (suc i) d e h = same_member xs i d e (omega (arith, h))

-- no two entries have one index
indices_from : (f : ℕ → ℕ) (d m a n : ℕ) → m < a → AllByRecursion (λ (x : Entry). same_index (d, m) x ≡ false) (map (λ i. (f i, i)) (range_with_len a n))
indices_from f d m a zero less = tt
indices_from f d m a (suc n) less = (grind (arith, nat_tests), indices_from f d m (a + 1) n (omega arith))

apart_from : (f : ℕ → ℕ) (a n : ℕ) → IsDistinct same_index (map (λ i. (f i, i)) (range_with_len a n))
unfolding IsDistinct
apart_from f a zero = tt
apart_from f a (suc n) = (indices_from f (f a) a (a + 1) n (omega arith), apart_from f (a + 1) n)

-- the indices of the entries are indices of points
within_from : (f : ℕ → ℕ) (a n m : ℕ) → a + n ≤ m → AllByRecursion (λ (x : Entry). x.1 < m) (map (λ i. (f i, i)) (range_with_len a n))
within_from f a zero m few = tt
within_from f a (suc n) m few = (omega arith, within_from f (a + 1) n m (omega arith))

pub entries_within : (points : List Position) (sorted : List Entry) → IsPermutation (entries points) sorted → All (λ (a : Entry). a.1 < length points) sorted
entries_within points sorted moved =
    let n = length points in
    All-permutation (λ (a : Entry). a.1 < n) (entries points) sorted moved
    (All-from_recursion (λ (a : Entry). a.1 < n) (entries points) (within_from (λ i. distance points (at points i)) 0 n n (omega arith)))

pub length_sorted : (points : List Position) (sorted : List Entry) → IsPermutation (entries points) sorted → length sorted ≡ length points
length_sorted points sorted moved =
    length_permutation (entries points) sorted moved ∙ length-map (indices points) (entry points) ∙ length-range_with_len 0 (length points)

-- the entries of the k nearest indices
entries_of_nearest : (points : List Position) (k : ℕ) → filter (λ a. nat_lt (rank_in (entries points) a) k) (entries points) ≡ map (entry points)
    (nearest points k)
unfolding nearest
entries_of_nearest points k =
    let same = λ (j : ℕ). ap (λ n. nat_lt n k) (fold-map (λ n b. n + cond (comes_before b (entry points j)) 1 0) (entry points) 0 (indices points)) in
    filter_map (λ a. nat_lt (rank_in (entries points) a) k) (entry points) (indices points)
    ∙ ap (map (entry points)) (λ i. filter (λ j. same j i) (indices points))

-- the points of entries in order: the first k are the k nearest
pub nearest_of_sorted : (points : List Position) (sorted : List Entry) → IsPermutation (entries points) sorted → IsSortedBy before sorted → (k : ℕ)
    → AreNearestFirst points (map (λ a. at points a.1) sorted) k
nearest_of_sorted points sorted moved rising k =
    let point = λ (a : Entry). at points a.1 in
    let first = subst (λ (l : List Entry). IsPermutation l (take k sorted)) (entries_of_nearest points k)
    (nearest_are_first (entries points) sorted k moved (sorted_apart sorted k rising) (apart_from (λ i. distance points (at points i)) 0 (length points))) in
    let read : map point (map (entry points) (nearest points k)) ≡ nearest_points points k = map-map point (entry points) (nearest points k) in
    subst (IsPermutation (nearest_points points k)) (sym (take-map point k sorted))
    (subst (λ (l : List Position). IsPermutation l (map point (take k sorted))) read (IsPermutation-map point _ _ first))
