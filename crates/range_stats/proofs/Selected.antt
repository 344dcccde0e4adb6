-- Keys of which one is selected, and those before it are cut.
use Rattle.std.proofs.Common.{◌≡◌, ◌⊎◌, inl, inr, ℕ, ◌<◌, ◌≤◌, false, List, [], ◌∷◌, ◌++◌, length, get_or, map, take, drop, sym, ap, subst, ◌∙◌, arith}
use Rattle.std.specs.List.{All}
use Rattle.std.specs.List.Sorted.{IsPermutation, IsSplitAround}
use Rattle.std.specs.Ordering.{is_lt, nat_cmp}
use Rattle.std.proofs.lemmas.Bool.{cases_lt}
use Rattle.std.proofs.lemmas.Bool.Decides.{nat_tests}
use Rattle.std.proofs.lemmas.List.{append_assoc, drop-append-le, drop_all, map-append, take-append-le}
use Rattle.std.proofs.lemmas.List.Elements.{All-append, All-cons, All-nil, All-same, All-take}
use Rattle.std.proofs.lemmas.List.Sorted.{All-permutation, IsPermutation-append_left, IsPermutation-trans, length_permutation}
use Rattle.range_stats.specs.Keys.{IsCutAdded, IsCutAt, index_in}
use Rattle.range_stats.specs.Percent.{kept_count}

-- no key comes after the last
cut_at_end : (keys : List ℕ) (k : ℕ) → length keys ≤ k → IsCutAt k keys
cut_at_end keys k all = λ i d within. let x = get_or (take k keys) i d in All-same (λ y. x ≤ y) (drop k keys) [] (drop_all k keys all) (All-nil (λ y. x ≤ y))

at_least : (x y : ℕ) → is_lt (nat_cmp y x) ≡ false → x ≤ y
at_least x y late = grind (arith, nat_tests)

-- one key that is selected, with those before it in another order, and those after it
module _ (before nearest after : List ℕ) (key : ℕ) (moved : IsPermutation before nearest) (split : IsSplitAround nat_cmp before key after) where
  others_greater : All (λ x. All (λ y. x ≤ y) (key ∷ after)) nearest
  others_greater =
      let low : All (λ x. x ≤ key) nearest = All-permutation (λ x. x ≤ key) before nearest moved
      (λ i d within. at_least (get_or before i d) key (split.0 i d within)) in
      λ i d within.
      let x = get_or nearest i d in
      All-cons (λ y. x ≤ y) key after (low i d within) (λ j e inside. omega (arith, low i d within, at_least key (get_or after j e) (split.1 j e inside)))

  cut_before : (k : ℕ) → k ≤ length before → IsCutAt k nearest → IsCutAt k (nearest ++ key ∷ after)
  cut_before k few cut =
      let within : k ≤ length nearest = omega (arith, few, length_permutation before nearest moved) in
      let greater = All-take (λ x. All (λ y. x ≤ y) (key ∷ after)) k nearest others_greater in
      let all : All (λ x. All (λ y. x ≤ y) (drop k nearest ++ key ∷ after)) (take k nearest) =
      λ i d here. let x = get_or (take k nearest) i d in All-append (λ y. x ≤ y) (drop k nearest) (key ∷ after) (cut i d here) (greater i d here) in
      subst (λ (l : List ℕ). All (λ x. All (λ y. x ≤ y) (drop k (nearest ++ key ∷ after))) l) (sym (take-append-le k nearest (key ∷ after) within))
      (subst (λ (l : List ℕ). All (λ x. All (λ y. x ≤ y) l) (take k nearest)) (sym (drop-append-le k nearest (key ∷ after) within)) all)

  cut_anywhere : (k n : ℕ) → length (nearest ++ key ∷ after) ≡ n → (k < n → k ≤ length before) → IsCutAt k nearest → IsCutAt k (nearest ++ key ∷ after)
  cut_anywhere k n long few cut = go (cases_lt k n)
    where
      go : (k < n) ⊎ (n ≤ k) → IsCutAt k (nearest ++ key ∷ after)
      go (inl less) = cut_before k (few less) cut
      go (inr more) = cut_at_end (nearest ++ key ∷ after) k (omega (arith, long, more))

-- the indices in keys, where those before the selected one were put in another order
indices_joined : (nearest after : List ℕ) (key : ℕ) (old : List ℕ) (index : ℕ) → index ≡ index_in key
    → ((old ++ map index_in nearest) ++ index ∷ []) ++ map index_in after ≡ old ++ map index_in (nearest ++ key ∷ after)
indices_joined nearest after key old index here =
    append_assoc (old ++ map index_in nearest) (index ∷ []) (map index_in after) ∙ append_assoc old (map index_in nearest) (index ∷ map index_in after)
    ∙ ap (λ q. old ++ (map index_in nearest ++ q ∷ map index_in after)) here ∙ ap (λ l. old ++ l) (sym (map-append index_in nearest (key ∷ after)))

-- with the selected key and those after it, the indices of a part that was cut at each level are cut at each level again
pub cut_more : (n : ℕ) (levels keys before after : List ℕ) (key kept : ℕ) (old then : List ℕ) (index : ℕ) (new : List ℕ)
    → IsPermutation keys (before ++ key ∷ after) → IsSplitAround nat_cmp before key after
    → length before ≡ kept → All (λ level. kept_count level n < length keys → kept_count level n ≤ kept) levels
    → IsCutAdded levels n before old then → index ≡ index_in key
    → new ≡ (then ++ index ∷ []) ++ map index_in after → IsCutAdded levels n keys old new
cut_more n levels keys before after key kept old then index new moved split long greatest (nearest, turned, cut, joined) here is =
    let whole = nearest ++ key ∷ after in
    let again : IsPermutation keys whole = IsPermutation-trans _ _ _ moved (IsPermutation-append_left (key ∷ after) before nearest turned) in
    let each : All (λ level. IsCutAt (kept_count level n) whole) levels =
    λ i d within.
    let k = kept_count (get_or levels i d) n in
    cut_anywhere before nearest after key turned split k (length keys) (length_permutation keys whole again)
    (λ less. omega (arith, long, greatest i d within less)) (cut i d within) in
    (whole, again, each, is ∙ ap (λ l. (l ++ index ∷ []) ++ map index_in after) joined ∙ indices_joined nearest after key old index here)
