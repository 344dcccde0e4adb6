-- Tracks whose fixes may stand in a file.
use Rattle.std.proofs.Common.{◌≡◌, ◌≤◌, ◌<◌, ◌+◌, ◌*◌, ℕ, zero, suc, ℤ, pos, ◌+ℤ◌, Bool, true, false, cond, ◌==◌, ◌&&◌, not, List, [], ◌∷◌, ◌++◌, Option, Some, None, Result, Ok, Err, All, map, nat_lt, refl, subst, arith, rules, tests, negsuc}
use Rattle.std.specs.Bool.{⊤}
use Rattle.std.specs.Prelude.{int_le}
use Rattle.std.proofs.lemmas.Bool.{and_parts}
use Rattle.std.proofs.lemmas.Bool.Decides.{nat_tests}
use Rattle.range_plane.specs.Fix.{second_limit}
use Rattle.range_plane.specs.Scale.{limit}
use Rattle.split_files.specs.Laws.{IsOnGrid, MayFollowAll}
use Rattle.split_reading.specs.Told.{IsTimely}
use Rattle.split_reading.specs.declared.ledger.Row.{Row}
use Rattle.split_reading.specs.declared.told.Told.{Told}
use Rattle.split_reading.specs.declared.told.Told.TheVariants as told
use Rattle.split_reading.specs.declared.told.ToldFix.{ToldFix}
use Rattle.split_tracks.specs.Tracks.{entries_of, in_order, put_in, time_of}
use Rattle.split_tracks.specs.declared.fate.Entry.{Entry}
use Rattle.split_tracks.specs.declared.fate.Fate.{Fate}
use Rattle.split_tracks.specs.declared.fate.Fate.TheVariants.{InTrack, LeftOut}
use Rattle.split_tracks.specs.declared.fate.Reason.{Reason}
use Rattle.split_tracks.specs.declared.fate.Reason.TheVariants as reason
use Rattle.split_fates.specs.declared.choice.Choice.{Choice}
use Rattle.split_fates.specs.declared.fates.FatesFault.{FatesFault}
use Rattle.split_fates.specs.Fates.{entry_at, fate_by, fate_of, fates_from, fix_fate, is_of_zone, is_on_grid, is_placed, metres_fate, placed_fate, reason_of, then_fates, told_fate, without_place}
use Rattle.split_fates.specs.Laws.{TracksMayBeWritten}
use Rattle.split_fates.specs.Marked.{fix_at}

less_is : (a b : ℕ) → nat_lt a b ≡ true → a ≤ b
less_is a b h = grind (arith, nat_tests)

more_is : (a b : ℕ) → nat_lt a b ≡ false → b ≤ a
more_is a b h = grind (arith, nat_tests)

at_most : (n most : ℕ) → int_le (pos n) (pos most) ≡ true → n ≤ most
at_most n most h = search (rules, tests)

inner : {X E : Type 0} {x y : X} → ◌≡◌ {A = Result X E} (Ok x) (Ok y) → x ≡ y
inner e = cc e

-- an entry that may stand in a file
record IsFit (choice : Choice) (entry : Entry) : Type 0 where
  second : entry.moment.second ≤ second_limit
  rest : entry.moment.nanosecond < 1_000_000_000
  easting : IsOnGrid choice.unit (entry.easting +ℤ choice.shift.0)
  northing : IsOnGrid choice.unit (entry.northing +ℤ choice.shift.1)
  used : choice.keeps_marks ≡ false → entry.is_used ≡ true

abbrev IsFitFate : Choice → Fate → Type 0
IsFitFate choice (InTrack animal entry) = IsFit choice entry
IsFitFate choice (LeftOut animal why) = ⊤

abbrev AllFit : Choice → List Entry → Type 0
AllFit choice [] = ⊤
AllFit choice (entry ∷ entries) = IsFit choice entry × AllFit choice entries

abbrev AllFitFates : Choice → List Fate → Type 0
AllFitFates choice [] = ⊤
AllFitFates choice (fate ∷ fates) = IsFitFate choice fate × AllFitFates choice fates

-- ---- entries in the order of time
-- each entry is fit, and not earlier than the one before it
abbrev Runs : Choice → ℕ → List Entry → Type 0
Runs choice time [] = ⊤
Runs choice time (entry ∷ entries) = IsFit choice entry × (time ≤ time_of entry) × Runs choice (time_of entry) entries

put_runs : (choice : Choice) (entry : Entry) (entries : List Entry) (time : ℕ) → IsFit choice entry → time ≤ time_of entry → Runs choice time entries → Runs choice time (put_in entry entries)
unfolding put_in
put_runs choice entry [] time fit later runs = (fit, later, tt)
put_runs choice entry (first ∷ others) time fit later runs = by (nat_lt (time_of first) (time_of entry)) refl (put_runs choice entry others (time_of first) fit)
  where
    by : (b : Bool) → nat_lt (time_of first) (time_of entry) ≡ b → (time_of first ≤ time_of entry → Runs choice (time_of first) others → Runs choice (time_of first) (put_in entry others))
        → Runs choice time (cond b (first ∷ put_in entry others) (entry ∷ first ∷ others))
    by true e more = (runs.0, runs.1, more (less_is (time_of first) (time_of entry) e) runs.2)
    by false e more = (fit, later, (runs.0, more_is (time_of first) (time_of entry) e, runs.2))

order_runs : (choice : Choice) (entries : List Entry) → AllFit choice entries → Runs choice 0 (in_order entries)
unfolding in_order
order_runs choice [] all = tt
order_runs choice (entry ∷ entries) all = put_runs choice entry (in_order entries) 0 all.0 (omega arith) (order_runs choice entries all.1)

-- so their fixes may stand in a file
follows : (choice : Choice) (entries : List Entry) (time second : ℕ) → second * 1_000_000_000 ≤ time → Runs choice time entries
    → MayFollowAll choice.unit choice.keeps_marks second (map (fix_at choice.shift) entries)
follows choice [] time second before runs = tt
follows choice (entry ∷ entries) time second before runs =
    let fit : IsFit choice entry = runs.0 in
    ((omega (arith, before, runs.1, fit.rest), fit.second, fit.easting, fit.northing, fit.used), follows choice entries (time_of entry) entry.moment.second (omega arith) runs.2)

-- ---- entries of fates
entries_fit : (choice : Choice) (animal : ℕ) (fates : List Fate) → AllFitFates choice fates → AllFit choice (entries_of fates animal)
entries_fit choice animal [] all = tt
entries_fit choice animal (LeftOut other why ∷ fates) all = entries_fit choice animal fates all.1
entries_fit choice animal (InTrack other entry ∷ fates) all = by (other == animal) (entries_fit choice animal fates all.1)
  where
    by : (b : Bool) → AllFit choice (entries_of fates animal) → AllFit choice (cond b (entry ∷ []) [] ++ entries_of fates animal)
    by true rest = (all.0, rest)
    by false rest = rest

-- ---- fates of rows
on_grid : (z : ℤ) (most : ℕ) → (int_le (pos 0) z && int_le z (pos most)) ≡ true → (n : ℕ) × (z ≡ pos n) × (n ≤ most)
on_grid (pos n) most h = (n, refl, at_most n most (and_parts (int_le (pos 0) (pos n)) (int_le (pos n) (pos most)) h).1)
on_grid (negsuc n) most h = cc h

left : (choice : Choice) (animal : Option ℕ) (why : Reason) (fate : Fate) → ◌≡◌ {A = Result Fate FatesFault} (Ok (LeftOut animal why)) (Ok fate) → IsFitFate choice fate
left choice animal why fate e = subst (IsFitFate choice) (inner e) tt

placeless : (choice : Choice) (animal number : ℕ) (used : Bool) (fate : Fate) → without_place animal number used ≡ Ok fate → IsFitFate choice fate
placeless choice animal number true fate e = cc e
placeless choice animal number false fate e = left choice _ _ fate e

placed : (choice : Choice) (animal number : ℕ) (fix : ToldFix) (metres : ℤ × ℤ) (fate : Fate) → IsTimely (told.Fix fix) → (choice.keeps_marks ≡ false → fix.is_used ≡ true)
    → placed_fate choice animal (entry_at number fix metres) fix.zone ≡ Ok fate → IsFitFate choice fate
placed choice animal number fix metres fate timely used e = by (is_placed choice (entry_at number fix metres) fix.zone) refl e
  where
    by : (b : Bool) → is_placed choice (entry_at number fix metres) fix.zone ≡ b → cond b (Ok (InTrack animal (entry_at number fix metres))) (without_place animal number fix.is_used) ≡ Ok fate
        → IsFitFate choice fate
    by false p e = placeless choice animal number fix.is_used fate e
    by true p e =
        let parts = and_parts (is_of_zone choice.zone fix.zone && is_on_grid choice.unit choice.shift.0 metres.0) (is_on_grid choice.unit choice.shift.1 metres.1) p in
        let first = and_parts (is_of_zone choice.zone fix.zone) (is_on_grid choice.unit choice.shift.0 metres.0) parts.0 in
        subst (IsFitFate choice) (inner e) (record {
          second = timely.0;
          rest = timely.1;
          easting = on_grid (metres.0 +ℤ choice.shift.0) (limit choice.unit) first.1;
          northing = on_grid (metres.1 +ℤ choice.shift.1) (limit choice.unit) parts.1;
          used = used;
        })

with_metres : (choice : Choice) (animal number : ℕ) (fix : ToldFix) (metres : Option (ℤ × ℤ)) (fate : Fate) → IsTimely (told.Fix fix) → (choice.keeps_marks ≡ false → fix.is_used ≡ true)
    → metres_fate choice animal number fix metres ≡ Ok fate → IsFitFate choice fate
with_metres choice animal number fix None fate timely used e = placeless choice animal number fix.is_used fate e
with_metres choice animal number fix (Some metres) fate timely used e = placed choice animal number fix metres fate timely used e

-- a fix that is not left out is used, or such ones are kept
is_used : (sensor used keeps : Bool) (other : Option Reason) → cond (not sensor) (Some reason.Sensor) (cond (not used && not keeps) (Some reason.Outlier) other) ≡ None → keeps ≡ false → used ≡ true
is_used false used keeps other e k = cc e
is_used true true keeps other e k = refl
is_used true false true other e k = cc k
is_used true false false other e k = cc e

of_reason : (choice : Choice) (animal number : ℕ) (fix : ToldFix) (why : Option Reason) (fate : Fate) → IsTimely (told.Fix fix) → (why ≡ None → choice.keeps_marks ≡ false → fix.is_used ≡ true)
    → fate_by choice animal number fix why ≡ Ok fate → IsFitFate choice fate
of_reason choice animal number fix (Some why) fate timely used e = left choice _ _ fate e
of_reason choice animal number fix None fate timely used e = with_metres choice animal number fix fix.metres fate timely (used refl) e

of_fix : (choice : Choice) (animal number : ℕ) (fix : ToldFix) (fate : Fate) → IsTimely (told.Fix fix) → fix_fate choice animal number fix ≡ Ok fate → IsFitFate choice fate
of_fix choice animal number fix fate timely e =
    of_reason choice animal number fix (reason_of choice.keeps_marks fix) fate timely (is_used fix.is_of_sensor fix.is_used choice.keeps_marks fix.left_for) e

of_row : (choice : Choice) (number : ℕ) (animal : Option ℕ) (what : Told) (fate : Fate) → IsTimely what → told_fate choice number animal what ≡ Ok fate → IsFitFate choice fate
of_row choice number animal (told.LeftOut why) fate timely e = left choice _ _ fate e
of_row choice number None (told.Fix fix) fate timely e = left choice _ _ fate e
of_row choice number (Some animal) (told.Fix fix) fate timely e = of_fix choice animal number fix fate timely e

fates_fit : (choice : Choice) (rows : List Row) (count : ℕ) (fates : List Fate) → All (λ row. IsTimely row.told) rows → fates_from choice count rows ≡ Ok fates → AllFitFates choice fates
unfolding fates_from
fates_fit choice [] count fates timely e = subst (AllFitFates choice) (inner e) tt
fates_fit choice (row ∷ rows) count fates timely e =
    by (fate_of choice (count + 1) row) (fates_from choice (count + 1) rows) refl refl (fates_fit choice rows (count + 1)) e
  where
    by : (first : Result Fate FatesFault) (others : Result (List Fate) FatesFault) → fate_of choice (count + 1) row ≡ first → fates_from choice (count + 1) rows ≡ others
        → ((fates : List Fate) → All (λ row. IsTimely row.told) rows → fates_from choice (count + 1) rows ≡ Ok fates → AllFitFates choice fates)
        → then_fates first others ≡ Ok fates → AllFitFates choice fates
    by (Err fault) others f o more e = cc e
    by (Ok fate) (Err fault) f o more e = cc e
    by (Ok fate) (Ok others) f o more e =
        subst (AllFitFates choice) (inner e)
        (of_row choice (count + 1) row.animal row.told fate (timely zero row (omega arith)) f, more others (λ i d b. timely (suc i) d (omega (arith, b))) o)

-- ---- tracks of fates
pub tracks_fit : TracksMayBeWritten
tracks_fit choice rows fates animal timely is =
    follows choice (in_order (entries_of fates animal)) 0 0 (omega arith) (order_runs choice (entries_of fates animal) (entries_fit choice animal fates (fates_fit choice rows 0 fates timely is)))
