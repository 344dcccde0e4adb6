-- Counts, record by record.
use Rattle.std.proofs.Common.{◌≡◌, ◌≢◌, ◌∙◌, ℕ, ◌+◌, ◌*◌, ◌<◌, ◌==◌, Bool, true, false, cond, List, [], ◌∷◌, ◌++◌, Option, Some, None, length, set, get_or, nat_lt, refl, sym, ap, arith, inl, inr}
use Rattle.std.proofs.lemmas.Bool.{cases_Bool, eqb-true}
use Rattle.std.proofs.lemmas.Bool.Decides.{nat_tests}
use Rattle.std.proofs.lemmas.Grind.{get_or-set_at, get_or_default_zero}
use Rattle.std.proofs.lemmas.List.{get_or-set_other, length-set}
use Rattle.std.proofs.lemmas.List.Elements.{filter_agree}
use Rattle.std.proofs.lemmas.List.FromFn.{fill_by_all, get_or-map-range_with_len, length-map-range_with_len}
use Rattle.std.proofs.lemmas.List.Sums.{length-filter, sum_by_push}
use Rattle.std.specs.List.{count_by}
use Rattle.split_tracks.specs.declared.fate.Entry.{Entry}
use Rattle.split_tracks.specs.declared.fate.Fate.{Fate}
use Rattle.split_tracks.specs.declared.fate.Fate.TheVariants.{InTrack, LeftOut}
use Rattle.split_tracks.specs.declared.fate.Reason.{Reason}
use Rattle.split_tracks.specs.declared.fate.Reason.TheVariants as reason
use Rattle.split_counts.specs.declared.counts.TheConstants.{REASONS}
use Rattle.split_counts.specs.Counts.{is_in_slot, is_left, is_one_of, left_counts, reason_place, slot_of}

-- how many counts there are
abbrev pub slots : ℕ → ℕ
slots animals = (animals + 1) * REASONS

place_below : (why : Reason) → reason_place why < REASONS
place_below reason.Animal = omega arith
place_below reason.Coordinates = omega arith
place_below reason.Zero = omega arith
place_below reason.Sensor = omega arith
place_below reason.Outlier = omega arith
place_below reason.Class = omega arith
place_below reason.NoDop = omega arith
place_below reason.Dop = omega arith
place_below reason.Type = omega arith
place_below reason.Before = omega arith
place_below reason.After = omega arith
place_below reason.Grid = omega arith
place_below reason.Speed = omega arith
place_below reason.Every = omega arith

less_true : (m n : ℕ) → nat_lt m n ≡ true → m < n
less_true m n h = grind (arith, nat_tests)

-- the count of an animal that is counted is there
pub slot_within : (animals : ℕ) (animal : Option ℕ) (why : Reason) → true ≡ is_one_of animals animal → slot_of animals animal why < slots animals
slot_within animals None why one = omega (arith, place_below why)
slot_within animals (Some animal) why one = omega (arith, place_below why, less_true animal animals (sym one))

pub counts_long : (animals : ℕ) (fates : List Fate) → length (left_counts animals fates) ≡ slots animals
counts_long animals fates = length-map-range_with_len (λ slot. count_by (is_in_slot animals slot) fates) 0 (slots animals)

count_at : (animals : ℕ) (fates : List Fate) (slot : ℕ) → slot < slots animals → get_or (left_counts animals fates) slot 0 ≡ count_by (is_in_slot animals slot) fates
count_at animals fates slot below = get_or-map-range_with_len (λ s. count_by (is_in_slot animals s) fates) 0 (slots animals) slot slot 0 below (omega arith)

-- a list of as many numbers that are the counts
counts_are : (animals : ℕ) (fates : List Fate) (counts : List ℕ) → length counts ≡ slots animals
    → ((slot : ℕ) → slot < slots animals → get_or counts slot 0 ≡ count_by (is_in_slot animals slot) fates) → counts ≡ left_counts animals fates
counts_are animals fates counts long each = fill_by_all (λ slot. count_by (is_in_slot animals slot) fates) counts (slots animals) 0 long each

-- one record more
count_push : (p : Fate → Bool) (fates : List Fate) (fate : Fate) → count_by p (fates ++ fate ∷ []) ≡ count_by p fates + cond (p fate) 1 0
count_push p fates fate = sum_by_push (λ x. cond (p x) 1 0) fates fate

-- a record that is in no count
nothing_more : (animals : ℕ) (fates : List Fate) (fate : Fate) → ((slot : ℕ) → is_in_slot animals slot fate ≡ false)
    → left_counts animals fates ≡ left_counts animals (fates ++ fate ∷ [])
nothing_more animals fates fate none = counts_are animals (fates ++ fate ∷ []) (left_counts animals fates) (counts_long animals fates)
    (λ slot below. count_at animals fates slot below ∙ sym (count_push (is_in_slot animals slot) fates fate ∙ (ap (λ b. count_by (is_in_slot animals slot) fates + cond b 1 0) (none slot) ∙ omega arith)))

-- the same of a list that is the counts, and of fates that are these and one more
pub track_more : (animals : ℕ) (fates next : List Fate) (animal : ℕ) (entry : Entry) (counts : List ℕ) → next ≡ fates ++ InTrack animal entry ∷ [] → counts ≡ left_counts animals fates
    → counts ≡ left_counts animals next
track_more animals fates next animal entry counts now are =
    are ∙ (nothing_more animals fates (InTrack animal entry) (λ slot. refl) ∙ ap (left_counts animals) (sym now))

pub other_more : (animals : ℕ) (fates next : List Fate) (animal : Option ℕ) (why : Reason) (counts : List ℕ) → next ≡ fates ++ LeftOut animal why ∷ []
    → is_one_of animals animal ≡ false → counts ≡ left_counts animals fates → counts ≡ left_counts animals next
other_more animals fates next animal why counts now other are =
    are ∙ (nothing_more animals fates (LeftOut animal why) (λ slot. rw other refl) ∙ ap (left_counts animals) (sym now))

-- a record that is in a count
left_more : (animals : ℕ) (fates : List Fate) (animal : Option ℕ) (why : Reason) → true ≡ is_one_of animals animal
    → set (left_counts animals fates) (slot_of animals animal why) (count_by (is_in_slot animals (slot_of animals animal why)) fates + 1)
    ≡ left_counts animals (fates ++ LeftOut animal why ∷ [])
left_more animals fates animal why one =
    let fate = LeftOut animal why in
    let own = slot_of animals animal why in
    let before = left_counts animals fates in
    let more = count_by (is_in_slot animals own) fates + 1 in
    let in_own : (slot : ℕ) → is_in_slot animals slot fate ≡ (own == slot) = λ slot. rw (← one) refl in
    counts_are animals (fates ++ fate ∷ []) (set before own more) (length-set before own more ∙ counts_long animals fates)
    (λ slot below. elim (cases_Bool (own == slot)) [
      | inl same ↦
          let is = eqb-true own slot same in
          get_or-set_at before own slot more 0 (sym is) (omega (arith, counts_long animals fates, below))
          ∙ (ap (λ s. count_by (is_in_slot animals s) fates + 1) is
          ∙ sym (count_push (is_in_slot animals slot) fates fate ∙ ap (λ b. count_by (is_in_slot animals slot) fates + cond b 1 0) (in_own slot ∙ same)))
      | inr other ↦
          let differ : slot ≢ own = λ e. grind (arith, other, e) in
          get_or-set_other before own slot more 0 differ
          ∙ (count_at animals fates slot below
          ∙ sym (count_push (is_in_slot animals slot) fates fate ∙ (ap (λ b. count_by (is_in_slot animals slot) fates + cond b 1 0) (in_own slot ∙ other) ∙ omega arith)))
    ])

-- the same of a list that is the counts
pub counted : (animals : ℕ) (fates : List Fate) (animal : Option ℕ) (why : Reason) (counts : List ℕ) (slot own : ℕ) → true ≡ is_one_of animals animal
    → counts ≡ left_counts animals fates → slot ≡ slot_of animals animal why → own ≡ get_or counts slot own → own ≡ count_by (is_in_slot animals (slot_of animals animal why)) fates
counted animals fates animal why counts slot own one are at there =
    let at_own = slot_of animals animal why in
    let within = slot_within animals animal why one in
    there ∙ (ap (λ s. get_or counts s own) at ∙ (ap (λ l. get_or l at_own own) are
    ∙ (get_or_default_zero (left_counts animals fates) at_own own (omega (arith, within, counts_long animals fates)) ∙ count_at animals fates at_own within)))

pub counted_more : (animals : ℕ) (fates next : List Fate) (animal : Option ℕ) (why : Reason) (counts : List ℕ) (slot own : ℕ) → next ≡ fates ++ LeftOut animal why ∷ []
    → true ≡ is_one_of animals animal → counts ≡ left_counts animals fates → slot ≡ slot_of animals animal why → own ≡ get_or counts slot own
    → set counts slot (own + 1) ≡ left_counts animals next
counted_more animals fates next animal why counts slot own now one are at there =
    ap (λ s. set counts s (own + 1)) at
    ∙ (ap (λ l. set l (slot_of animals animal why) (own + 1)) are
    ∙ (ap (λ n. set (left_counts animals fates) (slot_of animals animal why) (n + 1)) (counted animals fates animal why counts slot own one are at there)
    ∙ (left_more animals fates animal why one ∙ ap (left_counts animals) (sym now))))

-- no record yet
pub none_yet : (animals : ℕ) (counts : List ℕ) → length counts ≡ slots animals → ((slot : ℕ) → slot < slots animals → get_or counts slot 0 ≡ 0) → counts ≡ left_counts animals []
none_yet animals counts long zeros = counts_are animals [] counts long zeros

-- ---- what a count counts
-- a record is in the count of an animal and a reason if it is of that animal and left out for that reason
in_slot_left : (animals : ℕ) (animal : Option ℕ) (why : Reason) → true ≡ is_one_of animals animal → (fate : Fate)
    → is_in_slot animals (slot_of animals animal why) fate ≡ is_left animal why fate
in_slot_left animals animal why one (InTrack other entry) = refl
in_slot_left animals None why one (LeftOut None other) = let a = place_below why in let b = place_below other in grind (arith, nat_tests)
in_slot_left animals None why one (LeftOut (Some o) other) = let a = place_below why in let b = place_below other in grind (arith, nat_tests)
in_slot_left animals (Some n) why one (LeftOut None other) = let a = place_below why in let b = place_below other in grind (arith, nat_tests)
in_slot_left animals (Some n) why one (LeftOut (Some o) other) = let a = place_below why in let b = place_below other in grind (arith, nat_tests)

pub count_is : (animals : ℕ) (fates : List Fate) (animal : Option ℕ) (why : Reason) → true ≡ is_one_of animals animal
    → count_by (is_in_slot animals (slot_of animals animal why)) fates ≡ count_by (is_left animal why) fates
count_is animals fates animal why one =
    let p = is_in_slot animals (slot_of animals animal why) in
    sym (length-filter p fates) ∙ (ap length (filter_agree p (is_left animal why) (in_slot_left animals animal why one) fates) ∙ length-filter (is_left animal why) fates)
