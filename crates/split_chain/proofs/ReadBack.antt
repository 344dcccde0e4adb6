-- What the files of a split are read as.
use Rattle.std.proofs.Common.{◌≡◌, ◌∙◌, ◌+◌, ◌<◌, ◌^◌, ℕ, zero, suc, ℤ, Bool, true, false, cond, Global, List, [], ◌∷◌, Option, Some, None, Result, Ok, Err, All, IsTrue, map, length, get_or, refl, sym, ap, subst, inl, inr, arith}
use Rattle.std.specs.List.{AllZip, count_by, enumerate_from, filter, range_with_len}
use Rattle.std.proofs.lemmas.List.{get_or-map, length-map}
use Rattle.std.proofs.lemmas.List.Elements.{All-cons, All-nil}
use Rattle.std.proofs.lemmas.List.Sums.{length-filter, sum_by-cons}
use Rattle.range_fixes.specs.Field.{is_name}
use Rattle.split_export.specs.Export.{IsOfTable, IsTableWith}
use Rattle.split_export.specs.Files.{Filed, file_of, filed, files_of}
use Rattle.split_export.specs.Laws.{track_in}
use Rattle.split_export.specs.declared.asked.Asked.{Asked}
use Rattle.split_export.specs.declared.export.Export.{Export}
use Rattle.split_fates.proofs.FitTracks.{tracks_fit}
use Rattle.split_fates.specs.Fates.{fate_of, fates_from}
use Rattle.split_fates.specs.Marked.{fix_at}
use Rattle.split_fates.specs.Projected.{beside_place, told_beside_place}
use Rattle.split_fates.specs.declared.choice.Choice.{Choice}
use Rattle.split_files.proofs.ReadBack.{read_back_law}
use Rattle.split_files.specs.Laws.{used_of}
use Rattle.split_names.proofs.EachName.{file_names_have}
use Rattle.split_names.proofs.FileNames.{IsGood, clean_is_good, good_names_file, with_number_is_good}
use Rattle.split_names.specs.Laws.{IsFileName}
use Rattle.split_pace.specs.Leave.{fate_after, is_among, left_fate, left_records, reason_of}
use Rattle.split_pace.specs.declared.filter.Filter.{Filter}
use Rattle.split_reading.specs.Ledger.{AreTimely}
use Rattle.split_reading.specs.Told.{IsTimely}
use Rattle.split_reading.specs.Words.{texts}
use Rattle.split_reading.specs.declared.ledger.Row.{Row}
use Rattle.split_reading.specs.declared.told.Told.{Told}
use Rattle.split_reading.specs.declared.told.Told.TheVariants as told
use Rattle.split_table.specs.Table.{Titled}
use Rattle.split_table.specs.declared.table.TableFault.{TableFault}
use Rattle.split_titles.specs.declared.columns.Columns.{Columns}
use Rattle.split_tracks.specs.Tracks.{entries_of, in_order, tracks_of}
use Rattle.split_tracks.specs.declared.fate.Entry.{Entry}
use Rattle.split_tracks.specs.declared.fate.Fate.{Fate}
use Rattle.split_tracks.specs.declared.fate.Fate.TheVariants.{InTrack, LeftOut}
use Rattle.split_tracks.specs.declared.fate.Reason.{Reason}
use Rattle.split_chain.proofs.Animals.{first_and_others}
use Rattle.split_chain.proofs.Named.{IsFull, animals_full, as_many_names}
use Rattle.split_chain.proofs.Results.{inner}
use Rattle.split_chain.specs.Chain.{AreFilesBy, every_filter, filtered, filtered_by, speed_filter}
use Rattle.split_chain.specs.Laws.{IsReadBack, SplitsAreReadBack, tracks_in}
use Rattle.split_chain.specs.Placed.{ArePlaced}
use Rattle.split_chain.specs.declared.wish.Wish.{Wish}

-- ---- what filters leave
-- a fate is what becomes of a record of this number, whose moment a file may have
record IsOfRow (choice : Choice) (number : ℕ) (fate : Fate) : Type 0 where
  row : Row
  timely : IsTimely row.told
  is : fate_of choice number row ≡ Ok fate

-- fates are what becomes of such records behind so many others
record AreOfRows (choice : Choice) (count : ℕ) (fates : List Fate) : Type 0 where
  rows : List Row
  timely : AreTimely rows
  are : fates_from choice count rows ≡ Ok fates

-- no fates are those of no records
none_of_rows : (choice : Choice) (count : ℕ) → AreOfRows choice count []
unfolding fates_from
none_of_rows choice count = record { rows = []; timely = All-nil (λ row. IsTimely row.told); are = refl }

-- and one before others
one_of_rows : (choice : Choice) (count : ℕ) (fate : Fate) (fates : List Fate) → IsOfRow choice (count + 1) fate → AreOfRows choice (count + 1) fates → AreOfRows choice count (fate ∷ fates)
unfolding fates_from
one_of_rows choice count fate fates first others = record {
  rows = first.row ∷ others.rows;
  timely = All-cons (λ row. IsTimely row.told) first.row others.rows first.timely others.timely;
  are = rw (first.is, others.are) refl;
}

-- what is left of a fate is what becomes of a record too: of this one, or of one that is left out
row_after : (choice : Choice) (number n : ℕ) (why : Reason) (left : List ℕ) (fate : Fate) → IsOfRow choice number fate → IsOfRow choice number (fate_after why left (n, fate))
row_after choice number n why left fate of = by (is_among left n) fate of
  where
    by : (b : Bool) (fate : Fate) → IsOfRow choice number fate → IsOfRow choice number (cond b (left_fate why fate) fate)
    by false fate of = of
    by true (LeftOut animal other) of = of
    by true (InTrack animal entry) of = record { row = record { animal = Some animal; sensor = 0; told = told.LeftOut why }; timely = tt; is = refl }

-- what is left of fates, of which some are left out by their numbers
rows_after : (choice : Choice) (why : Reason) (left : List ℕ) (count n : ℕ) (rows : List Row) (fates : List Fate) → AreTimely rows → fates_from choice count rows ≡ Ok fates
    → AreOfRows choice count (map (fate_after why left) (enumerate_from n fates))
unfolding fates_from
rows_after choice why left count n [] fates timely e =
    subst (λ (f : List Fate). AreOfRows choice count (map (fate_after why left) (enumerate_from n f))) (inner e) (none_of_rows choice count)
rows_after choice why left count n (row ∷ rows) fates timely e =
    let parts = first_and_others choice count row rows fates e in
    subst (λ (f : List Fate). AreOfRows choice count (map (fate_after why left) (enumerate_from n f))) parts.2
    (one_of_rows choice count (fate_after why left (n, parts.0)) (map (fate_after why left) (enumerate_from (n + 1) parts.1))
    (row_after choice (count + 1) n why left parts.0 (record { row = row; timely = timely zero row (omega arith); is = parts.3 }))
    (rows_after choice why left (count + 1) (n + 1) rows parts.1 (λ i d b. timely (suc i) d (omega (arith, b))) parts.4))

-- so what a filter leaves of fates is what becomes of such records
filtered_of_rows : (choice : Choice) (one : Option Filter) (animals : ℕ) (fates : List Fate) → AreOfRows choice 0 fates → AreOfRows choice 0 (filtered_by one animals fates)
filtered_of_rows choice None animals fates of = of
filtered_of_rows choice (Some one) animals fates of = rows_after choice (reason_of one) (left_records one (tracks_of animals fates)) 0 1 of.rows fates of.timely of.are

-- ---- files of tracks
-- as many fixes are used as entries
as_many_used : (shift : ℤ × ℤ) (track : List Entry) → count_by (λ one. one.is_used) (map (fix_at shift) track) ≡ count_by (λ entry. entry.is_used) track
as_many_used shift [] = refl
as_many_used shift (entry ∷ track) =
    sum_by-cons (λ one. cond one.is_used 1 0) (fix_at shift entry) (map (fix_at shift) track)
    ∙ (ap (λ n. cond entry.is_used 1 0 + n) (as_many_used shift track) ∙ sym (sum_by-cons (λ one. cond one.is_used 1 0) entry track))

-- the file of an animal by what became of such records, with a name that files may have
file_read_back : (choice : Choice) (name : List ℕ) (fates : List Fate) (animal : ℕ) → AreOfRows choice 0 fates → IsTrue (is_name name)
    → IsReadBack choice.unit choice.shift (track_in fates animal) (file_of choice name (track_in fates animal))
file_read_back choice name fates animal of named few some =
    let track = track_in fates animal in
    let fixes = map (fix_at choice.shift) track in
    let long = length-map track (fix_at choice.shift) in
    let used : length (used_of fixes) ≡ count_by (λ entry. entry.is_used) track =
    length-map (filter (λ one. one.is_used) fixes) (λ one. one.fix) ∙ (length-filter (λ one. one.is_used) fixes ∙ as_many_used choice.shift track) in
    read_back_law choice.unit choice.keeps_marks name fixes named (tracks_fit choice of.rows fates animal of.timely of.are) (omega (arith, few, long)) (omega (arith, some, used))

-- the files of animals from this one on
files_read_back : (choice : Choice) (fates : List Fate) → AreOfRows choice 0 fates → (animal : ℕ) (names : List (List ℕ)) → All IsFileName names
    → let tracks = map in_order (map (entries_of fates) (range_with_len animal (length names))) in
    AllZip (IsReadBack choice.unit choice.shift) tracks (files_of choice names tracks)
unfolding files_of
files_read_back choice fates of animal [] named = tt
files_read_back choice fates of animal (name ∷ names) named = (
  file_read_back choice name fates animal of (named zero name (omega arith)).0,
  files_read_back choice fates of (animal + 1) names (λ i d b. named (suc i) d (omega (arith, b))),
)

-- the files of records whose moments a file may have, of animals whose names are not empty
made_read_back : (wish : Wish) (choice : Choice) (animals : List (List ℕ)) (rows : List Row) (files : List Filed) (counts : List ℕ) → All IsFull animals → AreTimely rows
    → (made : AreFilesBy wish choice animals rows files counts) → AllZip (IsReadBack choice.unit choice.shift) (tracks_in made) files
made_read_back wish choice animals rows files counts full timely made =
    let few : length animals < 2 ^ 32 = subst (λ n. n < 2 ^ 32) (sym (as_many_names animals made.names made.are_names)) made.are_made.few in
    let named = file_names_have IsFull IsGood clean_is_good with_number_is_good animals made.names few full made.are_names in
    let slow = filtered_of_rows choice (speed_filter wish choice.unit) (length made.names) made.fates (record { rows = rows; timely = timely; are = made.are_fates }) in
    let left = filtered_of_rows choice (every_filter wish) (length made.names) (filtered_by (speed_filter wish choice.unit) (length made.names) made.fates) slow in
    subst (AllZip (IsReadBack choice.unit choice.shift) (tracks_in made)) (sym made.are_made.are_files)
    (files_read_back choice (filtered wish choice.unit (length made.names) made.fates) left 0 made.names (λ i d b. good_names_file (get_or made.names i d) (named i d b)))

-- ---- rows that are placed
-- the moment of a record is the same beside its place
beside : (what : Told) → IsTimely what → IsTimely (told_beside_place what)
beside (told.LeftOut why) timely = tt
beside (told.Fix fix) timely = timely

-- and so the other way
with_place : (what : Told) → IsTimely (told_beside_place what) → IsTimely what
with_place (told.LeftOut why) timely = tt
with_place (told.Fix fix) timely = timely

-- rows are timely once they are placed
placed_timely : (columns : Columns Global) (old new : List Row) → ArePlaced columns old new → AreTimely old → AreTimely new
placed_timely columns old new placed timely = elim placed [
  | inl same ↦ subst AreTimely (sym same) timely
  | inr projected ↦ λ i d below.
      let long : length new ≡ length old = sym (length-map new beside_place) ∙ (ap length projected.1 ∙ length-map old beside_place) in
      let within : i < length old = omega (arith, below, long) in
      let alike : beside_place (get_or old i d) ≡ beside_place (get_or new i d) =
      sym (get_or-map beside_place old i d (beside_place d) within)
      ∙ (ap (λ rows. get_or rows i (beside_place d)) (sym projected.1) ∙ get_or-map beside_place new i d (beside_place d) below) in
      with_place (get_or new i d).told (subst (λ row. IsTimely row.told) alike (beside (get_or old i d).told (timely i d within)))
]

-- ---- splits
-- the rows of a table are timely
table_timely : (asked : Asked) (commas : Bool) (export : Export) (table : Result Titled TableFault) → IsTableWith (λ t. IsOfTable asked commas t export) table → AreTimely export.ledger.rows.items
table_timely asked commas export (Ok table) is = is.timely
table_timely asked commas export (Err fault) is = absurd is

-- and so the files of each split are read back
pub splits_read_back : SplitsAreReadBack
splits_read_back wish asked bytes files counts (export, is_export, of) named =
    let made = of.are_files in
    let timely = placed_timely export.columns export.ledger.rows.items of.rows of.are_placed (table_timely asked _ export _ is_export.2) in
    subst (λ unit. AllZip (IsReadBack unit made.choice.shift) (tracks_in made.are_files) (map filed files)) made.is_choice.is_unit
    (made_read_back wish made.choice (texts export.ledger.names) of.rows (map filed files) counts (animals_full asked _ export _ named is_export.2) timely made.are_files)
