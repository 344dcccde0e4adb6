-- The tracks of fates, once a filter leaves records out.
use Rattle.std.proofs.Common.{◌≡◌, ◌≢◌, ◌∙◌, ◌+◌, ◌<◌, ◌≤◌, ◌==◌, ◌||◌, ◌++◌, ℕ, zero, suc, Bool, true, false, cond, not, nat_lt, fold, filter, List, [], ◌∷◌, None, map, get_or, zero-le, refl, sym, ap, subst, inl, inr, arith}
use Rattle.std.specs.List.{enumerate_from, range_with_len}
use Rattle.std.proofs.lemmas.Bool.{cases_Bool, cond-false, cond-true, eqb-true, ltb-false, ne_eqb}
use Rattle.std.proofs.lemmas.List.Elements.{filter-append}
use Rattle.std.proofs.lemmas.List.Folds.{list_any-append}
use Rattle.std.proofs.lemmas.List.Kept.{IsNonDecreasingBy-filter}
use Rattle.std.proofs.lemmas.List.Sorted.{IsNonDecreasingBy-from_all_adjacent}
use Rattle.split_tracks.specs.declared.fate.Entry.{Entry}
use Rattle.split_tracks.specs.declared.fate.Fate.{Fate}
use Rattle.split_tracks.specs.declared.fate.Fate.TheVariants.{InTrack, LeftOut}
use Rattle.split_tracks.specs.declared.fate.Reason.{Reason}
use Rattle.split_tracks.specs.Tracks.{entries_of, entry_in, in_order, put_in, time_of, tracks_of}
use Rattle.split_tracks.proofs.TimeOrder.{filter-in_order, in_order-from_sort, sorted-in_order}
use Rattle.split_pace.specs.declared.filter.Filter.{Filter}
use Rattle.split_pace.specs.Filters.{Parted, left_of, none_yet, parted, with_entry}
use Rattle.split_pace.specs.Laws.{AreNumbered, IsNumbered, TracksAreFiltered, stays_of}
use Rattle.split_pace.specs.Leave.{fate_after, fates_after, is_among, left_records, passes, reason_of}
use Rattle.split_pace.proofs.Pieces.{keeps, leaves, passes_over}

-- what holds of each entry
abbrev Each : (Entry → Type 0) → List Entry → Type 0
Each P [] = Unit {0}
Each P (entry ∷ entries) = P entry × Each P entries

Each-weaker : (P Q : Entry → Type 0) → ((entry : Entry) → P entry → Q entry) → (entries : List Entry) → Each P entries → Each Q entries
Each-weaker P Q weaker [] each = tt
Each-weaker P Q weaker (entry ∷ entries) each = (weaker entry each.0, Each-weaker P Q weaker entries each.1)

Each-append : (P : Entry → Type 0) (xs ys : List Entry) → Each P xs → Each P ys → Each P (xs ++ ys)
Each-append P [] ys left right = right
Each-append P (x ∷ xs) ys left right = (left.0, Each-append P xs ys left.1 right)

Each-put_in : (P : Entry → Type 0) (e : Entry) (fs : List Entry) → P e → Each P fs → Each P (put_in e fs)
unfolding put_in
Each-put_in P e [] first each = (first, tt)
Each-put_in P e (f ∷ fs) first each = elim (cases_Bool (nat_lt (time_of f) (time_of e))) [
  | inl past ↦ rw past (each.0, Each-put_in P e fs first each.1)
  | inr stays ↦ rw stays (first, each)
]

Each-in_order : (P : Entry → Type 0) (es : List Entry) → Each P es → Each P (in_order es)
unfolding in_order
Each-in_order P [] each = tt
Each-in_order P (e ∷ es) each = Each-put_in P e (in_order es) each.0 (Each-in_order P es each.1)

-- two tests that agree on all entries filter alike
filter_alike : (p q : Entry → Bool) (entries : List Entry) → Each (λ entry. p entry ≡ q entry) entries → filter p entries ≡ filter q entries
filter_alike p q [] each = refl
filter_alike p q (entry ∷ entries) each =
    ap (λ b. cond b (entry ∷ filter p entries) (filter p entries)) each.0
    ∙ ap (λ l. cond (q entry) (entry ∷ l) l) (filter_alike p q entries each.1)

-- two filters may change places
swap_first : (p q : Entry → Bool) (entry : Entry) (entries : List Entry) (a b : Bool) → p entry ≡ a → q entry ≡ b → filter p (filter q entries) ≡ filter q (filter p entries)
    → filter p (filter q (entry ∷ entries)) ≡ filter q (filter p (entry ∷ entries))
swap_first p q entry entries true true a b rest = rw (a, b) (rw a (ap (λ l. entry ∷ l) rest))
swap_first p q entry entries true false a b rest = rw (a, b) rest
swap_first p q entry entries false true a b rest = rw (a, b) (rw a rest)
swap_first p q entry entries false false a b rest = rw (a, b) rest

filter_swap : (p q : Entry → Bool) (entries : List Entry) → filter p (filter q entries) ≡ filter q (filter p entries)
filter_swap p q [] = refl
filter_swap p q (entry ∷ entries) = swap_first p q entry entries (p entry) (q entry) refl refl (filter_swap p q entries)

-- ---- entries in the order of time, some of which are left out
order_filtered : (p : Entry → Bool) (es : List Entry) → filter p (in_order es) ≡ in_order (filter p es)
order_filtered p es = in_order-from_sort (filter p es) (filter p (in_order es))
    (IsNonDecreasingBy-filter time_of p (in_order es) (IsNonDecreasingBy-from_all_adjacent time_of (in_order es) (λ k d below. ltb-false _ _ (sorted-in_order es k d zero-le below))))
    (λ x. filter_swap _ p (in_order es) ∙ (ap (filter p) (filter-in_order x es) ∙ filter_swap p _ es))

-- ---- the entries of an animal, once records are left out
module _ (reason : Reason) (left : List ℕ) where
  abbrev remains : Entry → Bool
  remains entry = not (is_among left entry.«record»)

  by_tests : (animal number other : ℕ) (entry : Entry) (a b : Bool) → entry.«record» ≡ number → is_among left number ≡ a → (other == animal) ≡ b
      → entry_in animal (fate_after reason left (number, InTrack other entry)) ≡ filter remains (entry_in animal (InTrack other entry))
  by_tests animal number other entry true true numbered among own =
      let gone : remains entry ≡ false = ap not (ap (is_among left) numbered ∙ among) in rw (among, own) (sym (cond-false _ _ _ gone))
  by_tests animal number other entry true false numbered among own = rw (among, own) refl
  by_tests animal number other entry false true numbered among own =
      let there : remains entry ≡ true = ap not (ap (is_among left) numbered ∙ among) in rw (among, own) (sym (cond-true _ _ _ there))
  by_tests animal number other entry false false numbered among own = rw (among, own) refl

  of_fate : (animal number : ℕ) (fate : Fate) → IsNumbered number fate → entry_in animal (fate_after reason left (number, fate)) ≡ filter remains (entry_in animal fate)
  of_fate animal number (LeftOut other why) numbered = elim (cases_Bool (is_among left number)) [ inl among ↦ rw among refl | inr apart ↦ rw apart refl ]
  of_fate animal number (InTrack other entry) numbered = by_tests animal number other entry (is_among left number) (other == animal) numbered refl refl

  pub of_fates : (animal number : ℕ) (fates : List Fate) → AreNumbered number fates
      → entries_of (map (fate_after reason left) (enumerate_from number fates)) animal ≡ filter remains (entries_of fates animal)
  of_fates animal number [] numbered = refl
  of_fates animal number (fate ∷ fates) numbered =
      ap (λ l. l ++ entries_of (map (fate_after reason left) (enumerate_from (number + 1) fates)) animal) (of_fate animal number fate numbered.0)
      ∙ (ap (λ l. filter remains (entry_in animal fate) ++ l) (of_fates animal (number + 1) fates numbered.1) ∙ sym (filter-append remains (entry_in animal fate) (entries_of fates animal)))

  -- records have their numbers still
  number_stays : (number : ℕ) (fate : Fate) → IsNumbered number fate → IsNumbered number (fate_after reason left (number, fate))
  number_stays number (LeftOut other why) numbered = elim (cases_Bool (is_among left number)) [ inl among ↦ rw among tt | inr apart ↦ rw apart tt ]
  number_stays number (InTrack other entry) numbered = elim (cases_Bool (is_among left number)) [ inl among ↦ rw among tt | inr apart ↦ rw apart numbered ]

  pub numbers_stay : (number : ℕ) (fates : List Fate) → AreNumbered number fates → AreNumbered number (map (fate_after reason left) (enumerate_from number fates))
  numbers_stay number [] numbered = tt
  numbers_stay number (fate ∷ fates) numbered = (number_stays number fate numbered.0, numbers_stay (number + 1) fates numbered.1)

-- ---- which records are left out of the track of one animal
-- an entry of an animal is that of its record
abbrev IsAt : List Fate → ℕ → ℕ → Fate → Entry → Type 0
IsAt fates number animal d entry = (j : ℕ) × (number + j ≡ entry.«record») × (get_or fates j d ≡ InTrack animal entry)

first_at : (number animal : ℕ) (fate : Fate) (fates : List Fate) (d : Fate) → IsNumbered number fate → Each (IsAt (fate ∷ fates) number animal d) (entry_in animal fate)
first_at number animal (LeftOut other why) fates d numbered = tt
first_at number animal (InTrack other entry) fates d numbered = elim (cases_Bool (other == animal)) [
  | inl own ↦ rw own ((zero, omega (arith, numbered), ap (λ n. InTrack n entry) (eqb-true other animal own)), tt)
  | inr another ↦ rw another tt
]

all_at : (number animal : ℕ) (fates : List Fate) (d : Fate) → AreNumbered number fates → Each (IsAt fates number animal d) (entries_of fates animal)
all_at number animal [] d numbered = tt
all_at number animal (fate ∷ fates) d numbered =
    Each-append (IsAt (fate ∷ fates) number animal d) (entry_in animal fate) (entries_of fates animal) (first_at number animal fate fates d numbered.0)
    (Each-weaker (IsAt fates (number + 1) animal d) (IsAt (fate ∷ fates) number animal d) (λ entry at. (suc at.0, omega (arith, at.1), at.2)) (entries_of fates animal)
    (all_at (number + 1) animal fates d numbered.1))

-- entries of two animals are of two records
apart : (fates : List Fate) (number a b : ℕ) (d : Fate) (x y : Entry) → a ≢ b → IsAt fates number a d x → IsAt fates number b d y → y.«record» ≢ x.«record»
apart fates number a b d x y differ at_x at_y same =
    let place : at_x.0 ≡ at_y.0 = omega (arith, at_x.1, at_y.1, same) in
    let both : InTrack a x ≡ InTrack b y = sym at_x.2 ∙ (ap (λ j. get_or fates j d) place ∙ at_y.2) in
    differ (animal_of a b x y both)
  where
    animal_of : (a b : ℕ) (x y : Entry) → InTrack a x ≡ InTrack b y → a ≡ b
    animal_of a b x y both = cc

-- what is left out of a track is of the track
left_from : (P : Entry → Type 0) (pass : List Entry → Entry → Bool) (p : Parted) (track : List Entry) → Each P p.left → Each P track → Each P (fold (with_entry pass) p track).left
left_from P pass p [] so_far each = so_far
left_from P pass p (entry ∷ track) so_far each =
    let goal : Parted → Type 0 = λ q. Each P (fold (with_entry pass) q track).left in
    elim (cases_Bool entry.is_used) [
      | inr unused ↦ subst goal (sym (passes_over pass p entry unused)) (left_from P pass p track so_far each.1)
      | inl used ↦
          elim (cases_Bool (pass p.kept entry)) [
            | inl does ↦ subst goal (sym (keeps pass p entry used does)) (left_from P pass (record { kept = entry ∷ p.kept; left = p.left }) track so_far each.1)
            | inr fails ↦
                subst goal (sym (leaves pass p entry used fails))
                (left_from P pass (record { kept = p.kept; left = p.left ++ entry ∷ [] }) track (Each-append P p.left (entry ∷ []) so_far (each.0, tt)) each.1)
          ]
    ]

none_among : (number : ℕ) (entries : List Entry) → Each (λ entry. entry.«record» ≢ number) entries → is_among (map (λ entry. entry.«record») entries) number ≡ false
none_among number [] each = refl
none_among number (entry ∷ entries) each = rw (ne_eqb entry.«record» number each.0) (none_among number entries each.1)

module _ (one : Filter) (fates : List Fate) where
  abbrev track_of : ℕ → List Entry
  track_of animal = in_order (entries_of fates animal)

  abbrev left_in : ℕ → List ℕ
  left_in animal = left_of (passes one) (track_of animal)

  abbrev left_of_range : ℕ → ℕ → List ℕ
  left_of_range from many = left_records one (map in_order (map (entries_of fates) (range_with_len from many)))

  -- a number that no other animal leaves out
  module _ (animal number : ℕ) (others : (other : ℕ) → animal ≢ other → is_among (left_in other) number ≡ false) where
    in_first : (from many : ℕ) → is_among (left_of_range from (suc many)) number ≡ (is_among (left_in from) number || is_among (left_of_range (from + 1) many) number)
    in_first from many = list_any-append (λ n. n == number) (left_in from) (left_of_range (from + 1) many)

    behind : (from many : ℕ) → animal < from → is_among (left_of_range from many) number ≡ false
    behind from zero before = refl
    behind from (suc many) before =
        in_first from many ∙ (ap (λ b. b || is_among (left_of_range (from + 1) many) number) (others from (λ same. omega (arith, same, before))) ∙ behind (from + 1) many (omega (arith, before)))

    or_none : (b : Bool) → (b || false) ≡ b
    or_none true = refl
    or_none false = refl

    within : (from many : ℕ) → from ≤ animal → animal < from + many → is_among (left_of_range from many) number ≡ is_among (left_in animal) number
    within from zero least most = absurd (omega (arith, least, most))
    within from (suc many) least most = elim (cases_Bool (animal == from)) [
      | inl same ↦
          let is = eqb-true animal from same in
          in_first from many
          ∙ (ap (λ b. is_among (left_in from) number || b) (behind (from + 1) many (omega (arith, is)))
          ∙ (or_none (is_among (left_in from) number) ∙ ap (λ a. is_among (left_in a) number) (sym is)))
      | inr another ↦
          let differ : animal ≢ from = λ is. grind (arith, another, is) in
          in_first from many
          ∙ (ap (λ b. b || is_among (left_of_range (from + 1) many) number) (others from differ) ∙ within (from + 1) many (omega (arith, least, differ)) (omega (arith, most)))
    ]

  module _ (numbered : AreNumbered 1 fates) (d : Fate) where
    -- a record of one animal is in no other one's track
    of_others : (animal : ℕ) (entry : Entry) → IsAt fates 1 animal d entry → (other : ℕ) → animal ≢ other → is_among (left_in other) entry.«record» ≡ false
    of_others animal entry at other differ =
        none_among entry.«record» (parted (passes one) (track_of other)).left
        (left_from (λ x. x.«record» ≢ entry.«record») (passes one) none_yet (track_of other) tt
        (Each-in_order (λ x. x.«record» ≢ entry.«record») (entries_of fates other)
        (Each-weaker (IsAt fates 1 other d) (λ x. x.«record» ≢ entry.«record») (λ x at_x. apart fates 1 animal other d entry x differ at at_x) (entries_of fates other) (all_at 1 other fates d numbered))))

    track_stays : (animals animal : ℕ) → animal < animals
        → in_order (entries_of (fates_after (reason_of one) (left_of_range 0 animals) fates) animal) ≡ stays_of one (track_of animal)
    track_stays animals animal below =
        let all = left_of_range 0 animals in
        ap in_order (of_fates (reason_of one) all animal 1 fates numbered)
        ∙ (sym (order_filtered (λ entry. not (is_among all entry.«record»)) (entries_of fates animal))
        ∙ filter_alike (λ entry. not (is_among all entry.«record»)) (λ entry. not (is_among (left_in animal) entry.«record»)) (track_of animal)
        (Each-in_order (λ entry. not (is_among all entry.«record») ≡ not (is_among (left_in animal) entry.«record»)) (entries_of fates animal)
        (Each-weaker (IsAt fates 1 animal d) (λ entry. not (is_among all entry.«record») ≡ not (is_among (left_in animal) entry.«record»))
        (λ entry at. ap not (within animal entry.«record» (of_others animal entry at) 0 animals (omega arith) (omega (arith, below)))) (entries_of fates animal) (all_at 1 animal fates d numbered))))

    tracks_stay : (animals from many : ℕ) → from + many ≤ animals
        → map in_order (map (entries_of (fates_after (reason_of one) (left_of_range 0 animals) fates)) (range_with_len from many))
        ≡ map (stays_of one) (map in_order (map (entries_of fates) (range_with_len from many)))
    tracks_stay animals from zero most = refl
    tracks_stay animals from (suc many) most =
        ap (λ t. t ∷ map in_order (map (entries_of (fates_after (reason_of one) (left_of_range 0 animals) fates)) (range_with_len (from + 1) many))) (track_stays animals from (omega (arith, most)))
        ∙ ap (λ l. stays_of one (track_of from) ∷ l) (tracks_stay animals (from + 1) many (omega (arith, most)))

pub filtered : TracksAreFiltered
filtered one animals fates numbered = (
  tracks_stay one fates numbered (LeftOut None (reason_of one)) animals 0 animals (omega arith),
  numbers_stay (reason_of one) (left_records one (tracks_of animals fates)) 1 fates numbered,
)
