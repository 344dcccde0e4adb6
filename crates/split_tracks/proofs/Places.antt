-- Each record has one place.
use Rattle.std.proofs.Common.{◌≡◌, ◌≢◌, inl, inr, ℕ, zero, suc, ◌+◌, ◌<◌, ◌≤◌, ◌==◌, false, List, [], ◌∷◌, All, length, map, refl, ap, arith}
use Rattle.std.proofs.lemmas.Bool.{cases_Bool, eqb-true, ne_eqb}
use Rattle.std.proofs.lemmas.List.Sorted.{IsPermutation-append, IsPermutation-append_right, IsPermutation-cons, IsPermutation-middle, IsPermutation-refl, IsPermutation-sym, IsPermutation-trans}
use Rattle.std.proofs.lemmas.Grind.{common_steps}
use Rattle.std.specs.List.{count_by, flat_map, range_with_len}
use Rattle.std.specs.List.Sorted.{IsPermutation}
use Rattle.split_tracks.specs.declared.fate.Entry.{Entry}
use Rattle.split_tracks.specs.declared.fate.Fate.{Fate}
use Rattle.split_tracks.specs.declared.fate.Fate.TheVariants.{InTrack, LeftOut}
use Rattle.split_tracks.specs.Laws.{IsOfAnimals, entry_of, is_left_out}
use Rattle.split_tracks.specs.Tracks.{entries_by_animal, entries_of, in_order, tracks_of}
use Rattle.split_tracks.proofs.TimeOrder.{permuted-in_order}

-- the entries of lists, one list after the other
abbrev joined : List (List Entry) → List Entry
joined lists = flat_map (λ list. list) lists

-- lists put in order have the same entries
permuted_lists : (lists : List (List Entry)) → IsPermutation (joined lists) (joined (map in_order lists))
permuted_lists [] = IsPermutation-refl []
permuted_lists (list ∷ lists) = IsPermutation-append list (in_order list) (joined lists) (joined (map in_order lists)) (permuted-in_order list) (permuted_lists lists)

-- the lists of animals from one number on, of which many; one of them has an entry more
other_list : (fates : List Fate) (a : ℕ) (e : Entry) (from many : ℕ) → a < from
    → map (entries_of (InTrack a e ∷ fates)) (range_with_len from many) ≡ map (entries_of fates) (range_with_len from many)
other_list fates a e from zero before = refl
other_list fates a e from (suc many) before =
    let differ : (a == from) ≡ false = ne_eqb a from (λ same. omega (arith, before, same)) in
    rw differ (ap (λ l. entries_of fates from ∷ l) (other_list fates a e (from + 1) many (omega (arith, before))))

one_list : (fates : List Fate) (a : ℕ) (e : Entry) (from many : ℕ) → from ≤ a → a < from + many
    → IsPermutation (e ∷ joined (map (entries_of fates) (range_with_len from many))) (joined (map (entries_of (InTrack a e ∷ fates)) (range_with_len from many)))
one_list fates a e from zero least most = absurd (omega (arith, least, most))
one_list fates a e from (suc many) least most = elim (cases_Bool (a == from)) [
  | inl same ↦
      let is = eqb-true a from same in
      rw (same, other_list fates a e (from + 1) many (omega (arith, is))) (IsPermutation-refl _)
  | inr other ↦
      let differ : a ≢ from = λ is. grind (arith, other, is) in
      rw other (IsPermutation-trans _ _ _ (IsPermutation-sym _ _ (IsPermutation-middle (entries_of fates from) e (joined (map (entries_of fates) (range_with_len (from + 1) many)))))
      (IsPermutation-append_right (entries_of fates from) _ _ (one_list fates a e (from + 1) many (omega (arith, least, differ)) (omega (arith, most)))))
]

-- no list has an entry of no record
empty_lists : (from many : ℕ) → joined (map (entries_of []) (range_with_len from many)) ≡ []
empty_lists from zero = refl
empty_lists from (suc many) = empty_lists (from + 1) many

rest_of : (animals : ℕ) (fate : Fate) (fates : List Fate) → All (IsOfAnimals animals) (fate ∷ fates) → All (IsOfAnimals animals) fates
rest_of animals fate fates all index d below = all (suc index) d (omega (arith, below))

-- the lists have the entries of all records
all_listed : (animals : ℕ) (fates : List Fate) → All (IsOfAnimals animals) fates → IsPermutation (flat_map entry_of fates) (joined (entries_by_animal animals fates))
all_listed animals [] all = rw (empty_lists 0 animals) (IsPermutation-refl [])
all_listed animals (InTrack a e ∷ fates) all =
    IsPermutation-trans _ _ _ (IsPermutation-cons e _ _ (all_listed animals fates (rest_of animals (InTrack a e) fates all)))
    (one_list fates a e 0 animals (omega arith) (let within = all 0 (InTrack a e) (omega arith) in omega (arith, within)))
all_listed animals (LeftOut a r ∷ fates) all = all_listed animals fates (rest_of animals (LeftOut a r) fates all)

pub all_in_tracks : (animals : ℕ) (fates : List Fate) → All (IsOfAnimals animals) fates
    → IsPermutation (flat_map entry_of fates) (joined (tracks_of animals fates))
all_in_tracks animals fates all = IsPermutation-trans _ _ _ (all_listed animals fates all) (permuted_lists (entries_by_animal animals fates))

pub all_counted : (fates : List Fate) → length (flat_map entry_of fates) + count_by is_left_out fates ≡ length fates
all_counted [] = refl
all_counted (InTrack a e ∷ fates) = let more = all_counted fates in grind (arith, common_steps, more)
all_counted (LeftOut a r ∷ fates) = let more = all_counted fates in grind (arith, common_steps, more)
