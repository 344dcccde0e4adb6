-- The fate of a record is of the animal that the record names, also once filters left it out.
use Rattle.std.proofs.Common.{◌≡◌, ◌∙◌, ◌+◌, ℕ, ℤ, Bool, true, false, cond, List, [], ◌∷◌, Option, Some, None, Result, Ok, Err, map, refl, sym, ap, inl, inr}
use Rattle.std.specs.List.{enumerate_from}
use Rattle.std.proofs.lemmas.Simd.{map-map}
use Rattle.split_fates.specs.Fates.{animal_fate, fate_by, fate_of, fates_from, is_placed, metres_fate, placed_fate, reason_of, then_fates, told_fate, without_place}
use Rattle.split_fates.specs.Projected.{beside_place}
use Rattle.split_fates.specs.declared.choice.Choice.{Choice}
use Rattle.split_fates.specs.declared.fates.FatesFault.{FatesFault}
use Rattle.split_pace.specs.Leave.{fate_after, is_among, left_fate, left_records}
use Rattle.split_pace.specs.Leave as pace
use Rattle.split_pace.specs.declared.filter.Filter.{Filter}
use Rattle.split_reading.specs.declared.ledger.Row.{Row}
use Rattle.split_reading.specs.declared.told.Told.{Told}
use Rattle.split_reading.specs.declared.told.Told.TheVariants as told
use Rattle.split_reading.specs.declared.told.ToldFix.{ToldFix}
use Rattle.split_reading.specs.declared.zone.Zone.{Zone}
use Rattle.split_titles.specs.declared.columns.Columns.{Columns}
use Rattle.split_tracks.specs.Tracks.{tracks_of}
use Rattle.split_tracks.specs.declared.fate.Entry.{Entry}
use Rattle.split_tracks.specs.declared.fate.Fate.{Fate}
use Rattle.split_tracks.specs.declared.fate.Fate.TheVariants.{InTrack, LeftOut}
use Rattle.split_tracks.specs.declared.fate.Reason.{Reason}
use Rattle.split_chain.proofs.Results.{inner}
use Rattle.split_chain.specs.Chain.{every_filter, filtered, filtered_by, speed_filter}
use Rattle.split_chain.specs.Laws.{animal_of}
use Rattle.split_chain.specs.Placed.{ArePlaced}
use Rattle.split_chain.specs.declared.wish.Wish.{Wish}

-- a fate, if there is one, is of this animal
abbrev IsOf : Option ℕ → Result Fate FatesFault → Type 0
IsOf animal result = (fate : Fate) → result ≡ Ok fate → animal_of fate ≡ animal

is_of : (animal : Option ℕ) (fate : Fate) → animal_of fate ≡ animal → IsOf animal (Ok fate)
is_of animal fate own other e = sym (ap animal_of (inner e)) ∙ own

-- ---- the fate of one record
of_no_place : (animal number : ℕ) (is_used : Bool) → IsOf (Some animal) (without_place animal number is_used)
of_no_place animal number true = λ fate e. absurd (cc e)
of_no_place animal number false = is_of (Some animal) _ refl

of_place : (choice : Choice) (animal : ℕ) (entry : Entry) (zone : Option Zone) → IsOf (Some animal) (placed_fate choice animal entry zone)
of_place choice animal entry zone = by (is_placed choice entry zone)
  where
    by : (b : Bool) → IsOf (Some animal) (cond b (Ok (InTrack animal entry)) (without_place animal entry.«record» entry.is_used))
    by true = is_of (Some animal) (InTrack animal entry) refl
    by false = of_no_place animal entry.«record» entry.is_used

of_metres : (choice : Choice) (animal number : ℕ) (fix : ToldFix) (metres : Option (ℤ × ℤ)) → IsOf (Some animal) (metres_fate choice animal number fix metres)
of_metres choice animal number fix None = of_no_place animal number fix.is_used
of_metres choice animal number fix (Some metres) = of_place choice animal _ fix.zone

of_reason : (choice : Choice) (animal number : ℕ) (fix : ToldFix) (why : Option Reason) → IsOf (Some animal) (fate_by choice animal number fix why)
of_reason choice animal number fix (Some why) = is_of (Some animal) (LeftOut (Some animal) why) refl
of_reason choice animal number fix None = of_metres choice animal number fix fix.metres

of_animal : (choice : Choice) (number : ℕ) (fix : ToldFix) (animal : Option ℕ) → IsOf animal (animal_fate choice number fix animal)
of_animal choice number fix None = is_of None _ refl
of_animal choice number fix (Some animal) = of_reason choice animal number fix (reason_of choice.keeps_marks fix)

of_told : (choice : Choice) (number : ℕ) (animal : Option ℕ) (what : Told) → IsOf animal (told_fate choice number animal what)
of_told choice number animal (told.LeftOut why) = is_of animal (LeftOut animal why) refl
of_told choice number animal (told.Fix fix) = of_animal choice number fix animal

-- ---- the fates of all
-- the first of fates, and the others
pub first_and_others : (choice : Choice) (count : ℕ) (row : Row) (rows : List Row) (fates : List Fate) → fates_from choice count (row ∷ rows) ≡ Ok fates
    → (fate : Fate) × (others : List Fate) × (fate ∷ others ≡ fates) × (fate_of choice (count + 1) row ≡ Ok fate) × (fates_from choice (count + 1) rows ≡ Ok others)
unfolding fates_from
first_and_others choice count row rows fates e = by (fate_of choice (count + 1) row) (fates_from choice (count + 1) rows) refl refl e
  where
    by : (first : Result Fate FatesFault) (rest : Result (List Fate) FatesFault) → fate_of choice (count + 1) row ≡ first → fates_from choice (count + 1) rows ≡ rest
        → then_fates first rest ≡ Ok fates
        → (fate : Fate) × (others : List Fate) × (fate ∷ others ≡ fates) × (fate_of choice (count + 1) row ≡ Ok fate) × (fates_from choice (count + 1) rows ≡ Ok others)
    by (Err fault) rest f r e = absurd (cc e)
    by (Ok fate) (Err fault) f r e = absurd (cc e)
    by (Ok fate) (Ok others) f r e = (fate, others, inner e, f, r)

-- the animals of rows, and those of fates
abbrev pub animals_of_rows : List Row → List (Option ℕ)
animals_of_rows rows = map (λ row. row.animal) rows

abbrev pub animals_of : List Fate → List (Option ℕ)
animals_of fates = map animal_of fates

-- the fates of records are of the animals of these
pub fates_animals : (choice : Choice) (count : ℕ) (rows : List Row) (fates : List Fate) → fates_from choice count rows ≡ Ok fates → animals_of fates ≡ animals_of_rows rows
unfolding fates_from
fates_animals choice count [] fates e = sym (ap animals_of (inner e))
fates_animals choice count (row ∷ rows) fates e =
    let parts = first_and_others choice count row rows fates e in
    sym (ap animals_of parts.2)
    ∙ (ap (λ (animal : Option ℕ). animal ∷ animals_of parts.1) (of_told choice (count + 1) row.animal row.told parts.0 parts.3)
    ∙ ap (λ (animals : List (Option ℕ)). row.animal ∷ animals) (fates_animals choice (count + 1) rows parts.1 parts.4))

-- also once some are left out by their numbers
animal_after : (why : Reason) (left : List ℕ) (number : ℕ) (fate : Fate) → animal_of (fate_after why left (number, fate)) ≡ animal_of fate
animal_after why left number fate = by (is_among left number) fate
  where
    by : (b : Bool) (fate : Fate) → animal_of (cond b (left_fate why fate) fate) ≡ animal_of fate
    by false fate = refl
    by true (InTrack animal entry) = refl
    by true (LeftOut animal other) = refl

animals_after : (why : Reason) (left : List ℕ) (number : ℕ) (fates : List Fate) → animals_of (map (fate_after why left) (enumerate_from number fates)) ≡ animals_of fates
animals_after why left number [] = refl
animals_after why left number (fate ∷ fates) =
    ap (λ animal. animal ∷ animals_of (map (fate_after why left) (enumerate_from (number + 1) fates))) (animal_after why left number fate)
    ∙ ap (λ animals. animal_of fate ∷ animals) (animals_after why left (number + 1) fates)

one_filter_animals : (one : Option Filter) (animals : ℕ) (fates : List Fate) → animals_of (filtered_by one animals fates) ≡ animals_of fates
one_filter_animals None animals fates = refl
one_filter_animals (Some one) animals fates = animals_after (pace.reason_of one) (left_records one (tracks_of animals fates)) 1 fates

-- so by both filters
pub filtered_animals : (wish : Wish) (choice : Choice) (animals : ℕ) (fates : List Fate) → animals_of (filtered wish choice.unit animals fates) ≡ animals_of fates
filtered_animals wish choice animals fates =
    one_filter_animals (every_filter wish) animals (filtered_by (speed_filter wish choice.unit) animals fates)
    ∙ one_filter_animals (speed_filter wish choice.unit) animals fates

-- rows that are placed are of the animals of the table's
pub placed_animals : {A : Type 0} (columns : Columns A) (old new : List Row) → ArePlaced columns old new → animals_of_rows new ≡ animals_of_rows old
placed_animals columns old new placed = elim placed [
  | inl same ↦ ap animals_of_rows same
  | inr projected ↦
      sym (map-map (λ (row : Row). row.animal) beside_place new)
      ∙ (ap animals_of_rows projected.1 ∙ map-map (λ (row : Row). row.animal) beside_place old)
]
