-- Each record of a table has one place in its split.
use Rattle.std.proofs.Common.{◌≡◌, ◌∙◌, ◌+◌, ℕ, Bool, true, cond, List, [], ◌∷◌, Option, Result, Ok, Err, All, map, length, refl, sym, ap, subst, arith}
use Rattle.std.specs.List.{count_by, flat_map, sum, sum_by}
use Rattle.std.proofs.lemmas.Bool.{ltb-true}
use Rattle.std.proofs.lemmas.List.{get_or-map, length-map}
use Rattle.std.proofs.lemmas.List.Concat.{length-flat_map}
use Rattle.std.proofs.lemmas.List.Elements.{All-map, All-weaker}
use Rattle.std.proofs.lemmas.List.Folds.{fold-map}
use Rattle.std.proofs.lemmas.List.Sorted.{length_permutation}
use Rattle.std.proofs.lemmas.List.Sums.{sum_by-cons}
use Rattle.split_counts.specs.Counts.{is_one_of}
use Rattle.split_counts.specs.Laws.{EveryRecordIsCountedOnce, IsLeftOfAnimals, is_in_track}
use Rattle.split_export.specs.Export.{IsOfTable, IsTableWith}
use Rattle.split_export.specs.Files.{Filed, file_of, filed, files_of}
use Rattle.split_export.specs.declared.asked.Asked.{Asked}
use Rattle.split_export.specs.declared.export.Export.{Export}
use Rattle.split_fates.specs.declared.choice.Choice.{Choice}
use Rattle.split_reading.specs.Ledger.{written}
use Rattle.split_reading.specs.Words.{texts}
use Rattle.split_reading.specs.declared.ledger.Row.{Row}
use Rattle.split_table.specs.Table.{Titled}
use Rattle.split_table.specs.declared.table.TableFault.{TableFault}
use Rattle.split_tracks.specs.Laws.{EveryRecordHasOnePlace, IsOfAnimals, entry_of}
use Rattle.split_tracks.specs.declared.fate.Entry.{Entry}
use Rattle.split_tracks.specs.declared.fate.Fate.{Fate}
use Rattle.split_tracks.specs.declared.fate.Fate.TheVariants.{InTrack, LeftOut}
use Rattle.split_chain.proofs.Animals.{animals_of, animals_of_rows, fates_animals, filtered_animals, placed_animals}
use Rattle.split_chain.proofs.Ledgers.{IsOfNames, IsRowOf, ledger_of_names}
use Rattle.split_chain.proofs.Named.{as_many_names}
use Rattle.split_chain.proofs.Tracks.{as_many_tracks}
use Rattle.split_chain.specs.Chain.{AreFilesBy}
use Rattle.split_chain.specs.Laws.{EveryRecordOfASplitHasOnePlace, HaveOnePlace, RecordsOfASplitAddUp, animal_of, fates_in, records_in, tracks_in}
use Rattle.split_chain.specs.declared.wish.Wish.{Wish}

-- ---- the animals of a split
-- an animal, if there is one, is one of so many
abbrev IsOneOf : ℕ → Option ℕ → Type 0
IsOneOf animals animal = is_one_of animals animal ≡ true

-- what holds of what a function gives of each
All-from_map : {X Y : Type 0} (P : Y → Type 0) (f : X → Y) (xs : List X) → All P (map f xs) → All (λ x. P (f x)) xs
All-from_map P f xs all i d below = subst P (get_or-map f xs i d (f d) below) (all i (f d) (omega (arith, below, length-map xs f)))

-- an entry is in the track of the animal of its fate, and what is left out is counted with it
in_track_of : (animals : ℕ) (fate : Fate) → IsOneOf animals (animal_of fate) → IsOfAnimals animals fate
in_track_of animals (InTrack animal entry) one = ltb-true animal animals one
in_track_of animals (LeftOut animal why) one = tt

left_out_of : (animals : ℕ) (fate : Fate) → IsOneOf animals (animal_of fate) → IsLeftOfAnimals animals fate
left_out_of animals (InTrack animal entry) one = tt
left_out_of animals (LeftOut animal why) one = one

-- the fates of a split are of the animals of its rows
made_animals : (wish : Wish) (choice : Choice) (animals : List (List ℕ)) (rows : List Row) (files : List Filed) (counts : List ℕ) (made : AreFilesBy wish choice animals rows files counts)
    → animals_of (fates_in made) ≡ animals_of_rows rows
made_animals wish choice animals rows files counts made =
    filtered_animals wish choice (length made.names) made.fates ∙ fates_animals choice 0 rows made.fates made.are_fates

-- ---- counts
-- an entry for each record that is in a track
as_many_entries : (fates : List Fate) → count_by is_in_track fates ≡ length (flat_map entry_of fates)
as_many_entries [] = refl
as_many_entries (InTrack animal entry ∷ fates) =
    let more = sum_by-cons (λ fate. cond (is_in_track fate) 1 0) (InTrack animal entry) fates in omega (arith, more, as_many_entries fates)
as_many_entries (LeftOut animal why ∷ fates) =
    let more = sum_by-cons (λ fate. cond (is_in_track fate) 1 0) (LeftOut animal why) fates in omega (arith, more, as_many_entries fates)

-- the records of files have one place, whose rows are of the animals of others, and these are so many
made_one_place : EveryRecordHasOnePlace → EveryRecordIsCountedOnce → (wish : Wish) (choice : Choice) (animals : List (List ℕ)) (old rows : List Row) (files : List Filed) (counts : List ℕ)
    → All (IsRowOf (length animals)) old → animals_of_rows rows ≡ animals_of_rows old → (made : AreFilesBy wish choice animals rows files counts)
    → HaveOnePlace old (length made.names) (fates_in made) (tracks_in made) counts
made_one_place in_tracks in_counts wish choice animals old rows files counts own same made =
    let many = length made.names in
    let fates = fates_in made in
    let of_rows : animals_of fates ≡ animals_of_rows old = made_animals wish choice animals rows files counts made ∙ same in
    let named : All (IsRowOf many) old = subst (λ n. All (IsRowOf n) old) (as_many_names animals made.names made.are_names) own in
    let each : All (λ fate. IsOneOf many (animal_of fate)) fates =
    All-from_map (IsOneOf many) animal_of fates (subst (All (IsOneOf many)) (sym of_rows) (All-map (IsOneOf many) (λ row. row.animal) old named)) in
    let of_animals = All-weaker (λ fate. IsOneOf many (animal_of fate)) (IsOfAnimals many) (in_track_of many) fates each in
    let left_of_animals = All-weaker (λ fate. IsOneOf many (animal_of fate)) (IsLeftOfAnimals many) (left_out_of many) fates each in
    record {
      are_of_rows = of_rows;
      are_in_tracks_of = of_animals;
      are_left_out_of = left_of_animals;
      in_tracks = (in_tracks many fates of_animals).0;
      in_counts = ap sum made.are_made.are_counts ∙ omega (arith, in_counts many fates left_of_animals, (in_tracks many fates of_animals).1, as_many_entries fates);
    }

-- ---- tables
-- the rows of a table are as many as its records, and each is of one of its animals
table_rows : (asked : Asked) (commas : Bool) (export : Export) (table : Result Titled TableFault) → IsTableWith (λ t. IsOfTable asked commas t export) table
    → IsOfNames [] (records_in table) (written export.ledger)
table_rows asked commas export (Ok table) is = ledger_of_names is.rules 0 [] [] [] table.records (written export.ledger) is.is_ledger
table_rows asked commas export (Err fault) is = absurd is

pub one_place : EveryRecordHasOnePlace → EveryRecordIsCountedOnce → EveryRecordOfASplitHasOnePlace
one_place in_tracks in_counts wish asked bytes files counts (export, is_export, of) =
    let made = of.are_files.are_files in
    let old = export.ledger.rows.items in
    let table = table_rows asked _ export _ is_export.2 in
    let placed = placed_animals export.columns old of.rows of.are_placed in
    let places = made_one_place in_tracks in_counts wish of.are_files.choice (texts export.ledger.names) old of.rows (map filed files) counts table.own placed made in (
      sym (length-map (fates_in made) animal_of) ∙ (ap length places.are_of_rows ∙ (length-map old (λ row. row.animal) ∙ table.as_many)),
      places,
    )

-- ---- files
-- files have the records of their tracks
files_records : (choice : Choice) (names : List (List ℕ)) (tracks : List (List Entry)) → length tracks ≡ length names
    → sum_by (λ file. file.records) (files_of choice names tracks) ≡ sum_by (λ track. length track) tracks
unfolding files_of
files_records choice [] [] long = refl
files_records choice [] (track ∷ tracks) long = absurd (omega (arith, long))
files_records choice (name ∷ names) [] long = absurd (omega (arith, long))
files_records choice (name ∷ names) (track ∷ tracks) long =
    sum_by-cons (λ (file : Filed). file.records) (file_of choice name track) (files_of choice names tracks)
    ∙ (ap (λ n. length track + n) (files_records choice names tracks (omega (arith, long))) ∙ sym (sum_by-cons (λ (own : List Entry). length own) track tracks))

pub add_up : EveryRecordHasOnePlace → EveryRecordOfASplitHasOnePlace → RecordsOfASplitAddUp
add_up in_tracks one_place wish asked bytes files counts split =
    let made = split.2.are_files.are_files in
    let choice = split.2.are_files.choice in
    let many = length made.names in
    let fates = fates_in made in
    let tracks = tracks_in made in
    let each = one_place wish asked bytes files counts split in
    let records : sum_by (λ file. file.records) files ≡ length (flat_map (λ track. track) tracks) =
    sym (fold-map (λ (n : ℕ) (file : Filed). n + file.records) filed 0 files)
    ∙ (ap (sum_by (λ (file : Filed). file.records)) made.are_made.are_files
    ∙ (files_records choice made.names tracks (as_many_tracks many fates) ∙ sym (length-flat_map (λ (track : List Entry). track) tracks))) in
    omega (arith, records, length_permutation (flat_map entry_of fates) (flat_map (λ track. track) tracks) each.1.in_tracks, each.1.in_counts, (in_tracks many fates each.1.are_in_tracks_of).1, each.0)
