-- The entries of animals, record by record.
use Rattle.std.proofs.Common.{◌≡◌, ◌≢◌, ℕ, ◌<◌, ◌≤◌, ◌==◌, true, List, [], ◌∷◌, ◌++◌, length, set, get_or, refl, sym, ap, ◌∙◌, arith, inl, inr}
use Rattle.std.proofs.lemmas.Bool.{cases_Bool, eqb-true, ne_eqb}
use Rattle.std.proofs.lemmas.Grind.{flat_map-append, get_or-set_at}
use Rattle.std.proofs.lemmas.List.{append-nil, get_or-set_other, length-set}
use Rattle.std.proofs.lemmas.List.FromFn.{fill_by_all, get_or-map-range_with_len, length-map-range_with_len}
use Rattle.split_tracks.specs.declared.fate.Entry.{Entry}
use Rattle.split_tracks.specs.declared.fate.Fate.{Fate}
use Rattle.split_tracks.specs.declared.fate.Fate.TheVariants.{InTrack, LeftOut}
use Rattle.split_tracks.specs.Tracks.{entries_by_animal, entries_of, entry_in}

-- one record more
entries_of-push : (fates : List Fate) (fate : Fate) (animal : ℕ) → entries_of (fates ++ fate ∷ []) animal ≡ entries_of fates animal ++ entry_in animal fate
entries_of-push fates fate animal = flat_map-append (entry_in animal) fates (fate ∷ []) ∙ ap (λ l. entries_of fates animal ++ l) (append-nil (entry_in animal fate))

entry_in-own : (animal : ℕ) (entry : Entry) → entry_in animal (InTrack animal entry) ≡ entry ∷ []
entry_in-own animal entry = rw (same animal) refl
  where
    same : (n : ℕ) → (n == n) ≡ true
    same n = grind arith

entry_in-other : (animal other : ℕ) (entry : Entry) → animal ≢ other → entry_in other (InTrack animal entry) ≡ []
entry_in-other animal other entry differ = rw (ne_eqb animal other differ) refl

-- a record that no animal has an entry of
nothing_more : (animals : ℕ) (fates : List Fate) (fate : Fate) → ((animal : ℕ) → animal < animals → entry_in animal fate ≡ [])
    → entries_by_animal animals fates ≡ entries_by_animal animals (fates ++ fate ∷ [])
nothing_more animals fates fate none =
    fill_by_all (entries_of (fates ++ fate ∷ [])) (entries_by_animal animals fates) animals [] (length-map-range_with_len (entries_of fates) 0 animals)
    (λ k below. get_or-map-range_with_len (entries_of fates) 0 animals k k [] below (omega arith)
    ∙ sym (entries_of-push fates fate k ∙ (ap (λ l. entries_of fates k ++ l) (none k below) ∙ append-nil (entries_of fates k))))

pub left_out_more : (animals : ℕ) (fates : List Fate) (animal : _) (reason : _)
    → entries_by_animal animals fates ≡ entries_by_animal animals (fates ++ LeftOut animal reason ∷ [])
left_out_more animals fates animal reason = nothing_more animals fates (LeftOut animal reason) (λ k below. refl)

pub other_more : (animals : ℕ) (fates : List Fate) (animal : ℕ) (entry : Entry) → animals ≤ animal
    → entries_by_animal animals fates ≡ entries_by_animal animals (fates ++ InTrack animal entry ∷ [])
other_more animals fates animal entry past =
    nothing_more animals fates (InTrack animal entry) (λ k below. entry_in-other animal k entry (λ e. omega (arith, e, past, below)))

-- a record that one animal has an entry of
pub entry_more : (animals : ℕ) (fates : List Fate) (animal : ℕ) (entry : Entry) → animal < animals
    → set (entries_by_animal animals fates) animal (entries_of fates animal ++ entry ∷ []) ≡ entries_by_animal animals (fates ++ InTrack animal entry ∷ [])
entry_more animals fates animal entry within =
    let fate = InTrack animal entry in
    let before = entries_by_animal animals fates in
    let long : length before ≡ animals = length-map-range_with_len (entries_of fates) 0 animals in
    let more = entries_of fates animal ++ entry ∷ [] in
    fill_by_all (entries_of (fates ++ fate ∷ [])) (set before animal more) animals [] (length-set before animal more ∙ long)
    (λ k below. elim (cases_Bool (k == animal)) [
      | inl same ↦
          let is = eqb-true k animal same in
          get_or-set_at before animal k more [] is (omega (arith, long, within))
          ∙ (ap (λ l. entries_of fates animal ++ l) (sym (entry_in-own animal entry)) ∙ (sym (entries_of-push fates fate animal) ∙ ap (entries_of (fates ++ fate ∷ [])) (sym is)))
      | inr other ↦
          let differ : k ≢ animal = λ e. grind (arith, other, e) in
          get_or-set_other before animal k more [] differ
          ∙ (get_or-map-range_with_len (entries_of fates) 0 animals k k [] below (omega arith)
          ∙ sym (entries_of-push fates fate k ∙ (ap (λ l. entries_of fates k ++ l) (entry_in-other animal k entry (λ e. differ (sym e))) ∙ append-nil (entries_of fates k))))
    ])

-- no record yet
pub none_yet : (animals : ℕ) (lists : List (List Entry)) → length lists ≡ animals → ((k : ℕ) → k < animals → get_or lists k [] ≡ []) → lists ≡ entries_by_animal animals []
none_yet animals lists long empty = fill_by_all (entries_of []) lists animals [] long empty
