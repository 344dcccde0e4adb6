-- Indices of points with their distances, as keys.
use Rattle.std.proofs.Common.{◌≡◌, ℕ, zero, suc, ◌+◌, ◌*◌, ◌/◌, ◌%◌, ◌<◌, ◌≤◌, cond, nat_lt, false, List, [], ◌∷◌, length, get_or, map, take, drop, filter}
use Rattle.std.proofs.Common.{refl, sym, ap, ap₂, subst, ◌∙◌, arith}
use Rattle.std.specs.List.{All, AllByRecursion, IsDistinct, range_with_len}
use Rattle.std.specs.List.Sorted.{IsPermutation}
use Rattle.std.proofs.lemmas.Bool.Decides.{nat_tests}
use Rattle.std.proofs.lemmas.List.{drop-map, length-map, take-map}
use Rattle.std.proofs.lemmas.List.Elements.{All-map}
use Rattle.std.proofs.lemmas.List.Folds.{fold-map}
use Rattle.std.proofs.lemmas.List.FromFn.{get_or-range_with_len, length-range_with_len}
use Rattle.std.proofs.lemmas.List.Sorted.{All-permutation, IsPermutation-map, length_permutation}
use Rattle.std.proofs.lemmas.Simd.{map-map}
use Rattle.std.proofs.Math.Nat.{mul-le-mul_right}
use Rattle.range_plane.specs.Edges.{at}
use Rattle.range_plane.specs.Plane.{Position}
use Rattle.range_plane.specs.Fix.{fix_limit}
use Rattle.range_stats.specs.Keys.{AreIndices, IsCutAdded, IsCutAt, entry_in, index_in, key_of, points_at}
use Rattle.range_stats.specs.Percent.{AreNearestFirst, IsRanking, comes_before, distance, entry, kept_count, nearest, nearest_points, indices}
use Rattle.range_stats.proofs.FirstEntries.{Entry, IsApart, filter_map, nearest_are_first, rank_in, same_index}

-- the entry of each point
abbrev pub entries : List Position → List Entry
entries points = map (entry points) (indices points)

-- no two entries have one index
indices_from : (f : ℕ → ℕ) (d m a n : ℕ) → m < a → AllByRecursion (λ (x : Entry). same_index (d, m) x ≡ false) (map (λ i. (f i, i)) (range_with_len a n))
indices_from f d m a zero lt = tt
indices_from f d m a (suc n) lt = (grind (arith, nat_tests), indices_from f d m (a + 1) n (omega arith))

apart_from : (f : ℕ → ℕ) (a n : ℕ) → IsDistinct same_index (map (λ i. (f i, i)) (range_with_len a n))
unfolding IsDistinct
apart_from f a zero = tt
apart_from f a (suc n) = (indices_from f (f a) a (a + 1) n (omega arith), apart_from f (a + 1) n)

-- the indices of the entries are indices of points
within_from : (f : ℕ → ℕ) (a n m : ℕ) → a + n ≤ m → AllByRecursion (λ (x : Entry). x.1 < m) (map (λ i. (f i, i)) (range_with_len a n))
within_from f a zero m le = tt
within_from f a (suc n) m le = (omega arith, within_from f (a + 1) n m (omega arith))

-- ---- keys
-- the key of each point's entry
abbrev pub keys : List Position → List ℕ
keys points = map (λ i. key_of (entry points i)) (indices points)

entry_in_key : (a : Entry) → a.1 < fix_limit → entry_in (key_of a) ≡ a
entry_in_key a within =
    let far : (a.0 * fix_limit + a.1) / fix_limit ≡ a.0 = omega arith in
    let near : (a.0 * fix_limit + a.1) % fix_limit ≡ a.1 = omega arith in
    ap₂ (λ distance index. (distance, index)) far near

entries_in_keys : (all : List Entry) → AllByRecursion (λ (a : Entry). a.1 < fix_limit) all → map entry_in (map key_of all) ≡ all
entries_in_keys [] within = refl
entries_in_keys (a ∷ all) within = ap₂ (λ x l. x ∷ l) (entry_in_key a within.0) (entries_in_keys all within.1)

-- keys in another order hold the entries of the points
keys_moved : (points : List Position) (moved_keys : List ℕ) → length points ≤ fix_limit → IsPermutation (keys points) moved_keys
    → IsPermutation (entries points) (map entry_in moved_keys)
keys_moved points moved_keys few moved =
    let all : map entry_in (keys points) ≡ entries points =
    ap (map entry_in) (sym (map-map key_of (entry points) (indices points)))
    ∙ entries_in_keys (entries points) (within_from (λ i. distance points (at points i)) 0 (length points) fix_limit (omega arith)) in
    subst (λ (l : List Entry). IsPermutation l (map entry_in moved_keys)) all (IsPermutation-map entry_in (keys points) moved_keys moved)

-- entries rise as their keys do
entries_rise : (x y : ℕ) → x ≤ y → comes_before (entry_in y) (entry_in x) ≡ false
entries_rise x y late = grind (arith, nat_tests)

entries_apart : (cut : List ℕ) (k : ℕ) → IsCutAt k cut → IsApart (take k (map entry_in cut)) (drop k (map entry_in cut))
entries_apart cut k apart =
    let before : IsApart (map entry_in (take k cut)) (map entry_in (drop k cut)) =
    All-map (λ a. All (λ b. comes_before b a ≡ false) (map entry_in (drop k cut))) entry_in (take k cut)
    (λ i d within.
    let x = get_or (take k cut) i d in
    All-map (λ b. comes_before b (entry_in x) ≡ false) entry_in (drop k cut)
    (λ j e inside. entries_rise x (get_or (drop k cut) j e) (apart i d within j e inside))) in
    subst (λ (l : List Entry). IsApart l (drop k (map entry_in cut))) (sym (take-map entry_in k cut))
    (subst (IsApart (map entry_in (take k cut))) (sym (drop-map entry_in k cut)) before)

-- the entries of the k nearest indices
entries_of_nearest : (points : List Position) (k : ℕ) → filter (λ a. nat_lt (rank_in (entries points) a) k) (entries points) ≡ map (entry points)
    (nearest points k)
unfolding nearest
entries_of_nearest points k =
    let same = λ (j : ℕ). ap (λ n. nat_lt n k) (fold-map (λ n b. n + cond (comes_before b (entry points j)) 1 0) (entry points) 0 (indices points)) in
    filter_map (λ a. nat_lt (rank_in (entries points) a) k) (entry points) (indices points)
    ∙ ap (map (entry points)) (λ i. filter (λ j. same j i) (indices points))

-- ---- keys in another order
length_moved : (points : List Position) (cut : List ℕ) → IsPermutation (keys points) cut → length cut ≡ length points
length_moved points cut moved = length_permutation (keys points) cut moved ∙ length-map (indices points) (λ i. key_of (entry points i))
    ∙ length-range_with_len 0 (length points)

index_in_key : (distance index n : ℕ) → index < n → n ≤ fix_limit → key_of (distance, index) % fix_limit < n
index_in_key distance index n within few = omega arith

keys_within : (points : List Position) → length points ≤ fix_limit → All (λ key. index_in key < length points) (keys points)
keys_within points few =
    let n = length points in
    All-map (λ key. index_in key < n) (λ i. key_of (entry points i)) (indices points)
    (λ k d within.
    let index = get_or (indices points) k d in
    let long = length-range_with_len 0 n in
    let is = get_or-range_with_len 0 n k d (omega (arith, within, long)) in
    index_in_key (distance points (at points index)) index n (omega (arith, is, within, long)) few)

-- the points at the indices in keys that are cut at k: the first k are the nearest
nearest_of_keys : (points : List Position) (cut : List ℕ) (k : ℕ) → length points ≤ fix_limit → IsPermutation (keys points) cut → IsCutAt k cut
    → AreNearestFirst points (points_at points (map index_in cut)) k
nearest_of_keys points cut k few moved apart =
    let point = λ (a : Entry). at points a.1 in
    let ranked = map entry_in cut in
    let first = subst (λ (l : List Entry). IsPermutation l (take k ranked)) (entries_of_nearest points k)
    (nearest_are_first (entries points) ranked k (keys_moved points cut few moved) (entries_apart cut k apart)
    (apart_from (λ i. distance points (at points i)) 0 (length points))) in
    let read : map point (map (entry points) (nearest points k)) ≡ nearest_points points k = map-map point (entry points) (nearest points k) in
    let here : map point (take k ranked) ≡ take k (points_at points (map index_in cut)) =
    sym (take-map point k ranked) ∙ ap (take k) (map-map point entry_in cut ∙ sym (map-map (at points) index_in cut)) in
    subst (IsPermutation (nearest_points points k)) here (subst (λ (l : List Position). IsPermutation l (map point (take k ranked))) read
    (IsPermutation-map point _ _ first))

-- a percentage of n is at most n
pub kept_count_le : (level n : ℕ) → level ≤ 100 → kept_count level n ≤ n
kept_count_le level n few = omega (arith, mul-le-mul_right n few)

-- the points at indices that are cut at what each of the levels keeps
pub ranking_of_cut : (points : List Position) (levels ranked : List ℕ) → length points ≤ fix_limit → IsCutAdded levels (length points) (keys points) [] ranked
    → IsRanking points levels (points_at points ranked)
ranking_of_cut points levels ranked few (cut, moved, each, read) =
    subst (λ l. IsRanking points levels (points_at points l)) (sym read)
    record {
      same_length = length-map (map index_in cut) (at points) ∙ length-map cut index_in ∙ length_moved points cut moved;
      nearest_first = λ i d within. nearest_of_keys points cut (kept_count (get_or levels i d) (length points)) few moved (each i d within);
    }

-- what a cut of all keys adds to no indices is an index of each point
pub indices_of_cut : (points : List Position) (levels ranked : List ℕ) → length points ≤ fix_limit → IsCutAdded levels (length points) (keys points) [] ranked
    → AreIndices points ranked × (length ranked ≤ fix_limit)
indices_of_cut points levels ranked few (cut, moved, each, read) =
    let n = length points in
    let within = All-permutation (λ key. index_in key < n) (keys points) cut moved (keys_within points few) in (
      subst (All (λ index. index < n)) (sym read) (All-map (λ index. index < n) index_in cut within),
      omega (arith, ap length read, length-map cut index_in, length_moved points cut moved, few),
    )
