-- Pairs of different indexes: what loops over indexes have pushed.
use Rattle.std.proofs.Common.{◌≡◌, ◌≢◌, sym, ap, ◌∙◌, ℕ, ◌+◌, ◌<◌, true, false, cond, List, [], ◌∷◌, ◌++◌, map, append_assoc, arith}
use Rattle.std.proofs.lemmas.Bool.{eq-eqb, ne_eqb}
use Rattle.std.proofs.lemmas.List.{append-nil, flat_map_more, map-append, map-id}
use Rattle.std.proofs.lemmas.List.Elements.{All-append, All-filter, All-head, All-map, All-nil, All-tail, All-weaker, filter-append}
use Rattle.std.proofs.lemmas.List.FromFn.{get_or-range_with_len, length-range_with_len, map-range_with_len_more}
use Rattle.std.specs.Prelude.{◌==◌, All, not}
use Rattle.std.specs.List.{filter, flat_map, range_with_len}
use Rattle.range_analysis.specs.Animals.{other_animals, pairs}

-- one index more
indices_more : (n : ℕ) → range_with_len 0 (n + 1) ≡ range_with_len 0 n ++ n ∷ []
indices_more n = sym (map-id _) ∙ (map-range_with_len_more (λ (x : ℕ). x) 0 n n (omega arith) ∙ ap (λ l. l ++ n ∷ []) (map-id _))

-- one more of the other indexes
others_more : (i n : ℕ) → other_animals (n + 1) i ≡ other_animals n i ++ cond (not (i == n)) (n ∷ []) []
others_more i n = ap (filter (λ j. not (i == j))) (indices_more n) ∙ filter-append (λ j. not (i == j)) (range_with_len 0 n) (n ∷ [])

-- the pairs of index i with the others below n, and then the one with n, are those with the others below n + 1
pub pair_pushed : (before made : List (ℕ × ℕ)) (i n : ℕ) → n ≢ i → made ≡ before ++ map (λ j. (i, j)) (other_animals n i)
    → made ++ (i, n) ∷ [] ≡ before ++ map (λ j. (i, j)) (other_animals (n + 1) i)
pair_pushed before made i n differ so_far =
    let test : (i == n) ≡ false = ne_eqb i n (λ e. differ (sym e)) in
    let more : other_animals (n + 1) i ≡ other_animals n i ++ n ∷ [] = rw test at (others_more i n) in
    let pair : ℕ → ℕ × ℕ = λ j. (i, j) in
    rw (so_far, more, map-append pair (other_animals n i) (n ∷ [])) (append_assoc before (map pair (other_animals n i)) (pair n ∷ []))

-- an index makes no pair with itself
pub pair_left_out : (before made : List (ℕ × ℕ)) (i n : ℕ) → n ≡ i → made ≡ before ++ map (λ j. (i, j)) (other_animals n i)
    → made ≡ before ++ map (λ j. (i, j)) (other_animals (n + 1) i)
pair_left_out before made i n same so_far =
    let test : (i == n) ≡ true = eq-eqb i n (sym same) in
    let more : other_animals (n + 1) i ≡ other_animals n i ++ [] = rw test at (others_more i n) in
    rw (more, append-nil (other_animals n i)) so_far

-- the pairs of indexes below n, the first of them below the bound
abbrev pub pairs_before : ℕ → ℕ → List (ℕ × ℕ)
pairs_before n bound = flat_map (λ i. map (λ j. (i, j)) (other_animals n i)) (range_with_len 0 bound)

-- with the pairs of index i there are those whose first is below i + 1
pub pairs_pushed : (all after : List (ℕ × ℕ)) (n i : ℕ) → all ≡ pairs_before n i → after ≡ all ++ map (λ j. (i, j)) (other_animals n i)
    → after ≡ pairs_before n (i + 1)
pairs_pushed all after n i so_far pushed =
    let each = λ (k : ℕ). map (λ (j : ℕ). (k, j)) (other_animals n k) in
    let more : pairs_before n (i + 1) ≡ pairs_before n i ++ each i = ap (flat_map each) (indices_more i) ∙ sym (flat_map_more each [] (range_with_len 0 i) i) in
    rw (pushed, so_far) (sym more)

-- ---- the indexes are below n
all_flat_map : {X Y : Type 0} (P : Y → Type 0) (f : X → List Y) (xs : List X) → All (λ x. All P (f x)) xs → All P (flat_map f xs)
all_flat_map P f [] each = All-nil P
all_flat_map P f (x ∷ xs) each = All-append P (f x) (flat_map f xs) (All-head (λ x. All P (f x)) x xs each)
    (all_flat_map P f xs (All-tail (λ x. All P (f x)) x xs each))

indices_below : (n : ℕ) → All (λ i. i < n) (range_with_len 0 n)
indices_below n = λ k d within. omega (
  arith,
  within,
  length-range_with_len 0 n,
  get_or-range_with_len 0 n k d (omega (arith, within, length-range_with_len 0 n)),
)

-- both indexes of each pair are below n
pub pairs_below : (n : ℕ) → All (λ pair. (pair.0 < n) × (pair.1 < n)) (pairs n)
pairs_below n =
    let Below = λ (pair : ℕ × ℕ). (pair.0 < n) × (pair.1 < n) in
    let row = λ (i : ℕ) (below : i < n). All-map Below (λ (j : ℕ). (i, j)) (other_animals n i)
    (All-weaker (λ j. j < n) (λ j. (i < n) × (j < n)) (λ j h. (below, h)) (other_animals n i)
    (All-filter (λ j. not (i == j)) (λ j. j < n) (range_with_len 0 n) (indices_below n))) in
    all_flat_map Below (λ i. map (λ j. (i, j)) (other_animals n i)) (range_with_len 0 n)
    (All-weaker (λ i. i < n) (λ i. All Below (map (λ j. (i, j)) (other_animals n i))) row (range_with_len 0 n) (indices_below n))
