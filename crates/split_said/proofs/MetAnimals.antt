-- The animals that were met, record by record.
use Rattle.std.proofs.Common.{◌≡◌, ◌≢◌, ◌∙◌, ℕ, ◌<◌, ◌==◌, Bool, true, false, cond, ◌||◌, List, [], ◌∷◌, ◌++◌, Some, None, length, set, get_or, refl, sym, ap, arith, inl, inr}
use Rattle.std.proofs.lemmas.Bool.{cases_Bool, eqb-true}
use Rattle.std.proofs.lemmas.Grind.{get_or-set_at}
use Rattle.std.proofs.lemmas.List.{append-nil, get_or-set_other}
use Rattle.std.proofs.lemmas.List.Elements.{filter_map-append}
use Rattle.std.proofs.lemmas.List.Folds.{list_any-append}
use Rattle.std.specs.List.{cons_option, filter_map}
use Rattle.split_tracks.specs.declared.fate.Fate.{Fate}
use Rattle.split_said.specs.Order.{animal_in, animals_in_order, firsts}
use Rattle.split_said.proofs.Firsts.{firsts-push, is_among}

-- a record more that is in no such track
pub order-other : (animals : ℕ) (fates : List Fate) (fate : Fate) → animal_in animals fate ≡ None → animals_in_order animals (fates ++ fate ∷ []) ≡ animals_in_order animals fates
order-other animals fates fate none =
    let before = filter_map (animal_in animals) fates in
    ap firsts (filter_map-append (animal_in animals) fates (fate ∷ []) ∙ (ap (λ one. before ++ cons_option one []) none ∙ append-nil before))

-- and one that is in the track of this animal
pub order-push : (animals : ℕ) (fates : List Fate) (fate : Fate) (animal : ℕ) → animal_in animals fate ≡ Some animal
    → animals_in_order animals (fates ++ fate ∷ [])
    ≡ cond (is_among (animals_in_order animals fates) animal) (animals_in_order animals fates) (animals_in_order animals fates ++ animal ∷ [])
order-push animals fates fate animal is =
    let before = filter_map (animal_in animals) fates in
    ap firsts (filter_map-append (animal_in animals) fates (fate ∷ []) ∙ ap (λ one. before ++ cons_option one []) is) ∙ firsts-push before animal

-- one animal more is met
pub met-push : (met : List Bool) (order : List ℕ) (animal other : ℕ) → animal < length met → get_or met other false ≡ is_among order other
    → get_or (set met animal true) other false ≡ is_among (order ++ animal ∷ []) other
met-push met order animal other within before =
    elim (cases_Bool (animal == other)) [
      | inl same ↦
          let is : other ≡ animal = sym (eqb-true animal other same) in
          get_or-set_at met animal other true false is within ∙ sym (joined ∙ rw same (gained (is_among order other)))
      | inr apart ↦
          let differ : other ≢ animal = λ e. grind (arith, apart, e) in
          get_or-set_other met animal other true false differ ∙ (before ∙ sym (joined ∙ rw apart (kept (is_among order other))))
    ]
  where
    joined : is_among (order ++ animal ∷ []) other ≡ (is_among order other || ((animal == other) || false))
    joined = list_any-append (λ one. one == other) order (animal ∷ [])

    gained : (b : Bool) → (b || (true || false)) ≡ true
    gained true = refl
    gained false = refl

    kept : (b : Bool) → (b || (false || false)) ≡ b
    kept true = refl
    kept false = refl
