-- Each file of a split is read back, and each record of its table has one place in it.
use Rattle.std.specs.Prelude.{◌≡◌, ◌≢◌, ◌+◌, ◌<◌, ◌≤◌, ℕ, ℤ, List, [], length, map, Option, Some, None, Result, Ok, Err, All}
use Rattle.std.specs.List.{AllZip, count_by, flat_map, sum, sum_by}
use Rattle.std.specs.List.Sorted.{IsPermutation}
use Rattle.range_fixes.specs.Reading.{reading}
use Rattle.range_plane.specs.Fix.{fix_limit}
use Rattle.range_plane.specs.declared.scale.Scale.{Scale}
use Rattle.split_counts.specs.Laws.{IsLeftOfAnimals}
use Rattle.split_files.specs.Laws.{used_of}
use Rattle.split_reading.specs.declared.ledger.Row.{Row}
use Rattle.split_table.specs.Table.{Titled, table_of}
use Rattle.split_table.specs.TableLeft.{Record}
use Rattle.split_table.specs.declared.table.TableFault.{TableFault}
use Rattle.split_tracks.specs.Laws.{IsOfAnimals, entry_of, is_left_out}
use Rattle.split_tracks.specs.declared.fate.Entry.{Entry}
use Rattle.split_tracks.specs.declared.fate.Fate.{Fate}
use Rattle.split_tracks.specs.declared.fate.Fate.TheVariants.{InTrack, LeftOut}
use Rattle.split_fates.specs.Marked.{fix_at}
use Rattle.split_fates.specs.declared.choice.Choice.{Choice}
use Rattle.split_export.specs.Files.{Filed, filed}
use Rattle.split_export.specs.declared.asked.Asked.{Asked}
use Rattle.split_export.specs.declared.files.TrackFile.{TrackFile}
use Rattle.split_chain.specs.declared.wish.Wish.{Wish}
use Rattle.split_chain.specs.Chain.{AreFilesBy, IsSplit, filtered, tracks_with}

-- a file reads in this unit as its name and the fixes of a track that are used, shifted by so many units, with no fault, where it
-- has no more fixes than a file may have, and one that is used
abbrev pub IsReadBack : Scale → ℤ × ℤ → List Entry → Filed → Type 0
IsReadBack unit shift track file =
    file.records ≤ fix_limit → 0 < file.used
    → reading unit file.text ≡ record { animal = Some file.name; fixes = used_of (map (fix_at shift) track); fault = None }

-- the fates of the records of files, once the filters left some out
abbrev pub fates_in : {wish : Wish} {choice : Choice} {animals : List (List ℕ)} {rows : List Row} {files : List Filed} {counts : List ℕ}
    → AreFilesBy wish choice animals rows files counts → List Fate
fates_in {wish} {choice} made = filtered wish choice.unit (length made.names) made.fates

-- the tracks of files: each animal's entries in the order of time, but for those that the filters leave out
abbrev pub tracks_in : {wish : Wish} {choice : Choice} {animals : List (List ℕ)} {rows : List Row} {files : List Filed} {counts : List ℕ}
    → AreFilesBy wish choice animals rows files counts → List (List Entry)
tracks_in made = tracks_with made.names (fates_in made)

-- each file of a split reads, in the unit asked, as its name and the fixes of its animal that are used, where the name that is asked
-- for a table without a column of animals is not empty
abbrev pub SplitsAreReadBack : Type 0
SplitsAreReadBack = (wish : Wish) (asked : Asked) (bytes : List ℕ) (files : List TrackFile) (counts : List ℕ) (split : IsSplit wish asked bytes files counts)
    → asked.name.now ≢ []
    → let made = split.2.are_files in
    AllZip (IsReadBack asked.unit made.choice.shift) (tracks_in made.are_files) (map filed files)

-- the records of a table, of which a text that is no table has none
abbrev pub records_in : Result Titled TableFault → List Record
records_in (Ok table) = table.records
records_in (Err fault) = []

-- how many records the table of these bytes has
abbrev pub record_count : List ℕ → ℕ
record_count bytes = length (records_in (table_of bytes))

-- the animal of a fate, if it has one
abbrev pub animal_of : Fate → Option ℕ
animal_of (InTrack animal entry) = Some animal
animal_of (LeftOut animal reason) = animal

-- these are the fates of such rows, and each has one place: it is of the animal of its row, which is one of so many, if it has one;
-- tracks have the entries of all that are in one, each once; and counts have all others
pub record HaveOnePlace (rows : List Row) (animals : ℕ) (fates : List Fate) (tracks : List (List Entry)) (counts : List ℕ) : Type 0 where
  pub are_of_rows : map animal_of fates ≡ map (λ row. row.animal) rows
  pub are_in_tracks_of : All (IsOfAnimals animals) fates
  pub are_left_out_of : All (IsLeftOfAnimals animals) fates
  pub in_tracks : IsPermutation (flat_map entry_of fates) (flat_map (λ track. track) tracks)
  pub in_counts : sum counts ≡ count_by is_left_out fates

-- a split has a fate of each record of its table, and each has one place in its tracks and counts
abbrev pub EveryRecordOfASplitHasOnePlace : Type 0
EveryRecordOfASplitHasOnePlace = (wish : Wish) (asked : Asked) (bytes : List ℕ) (files : List TrackFile) (counts : List ℕ) (split : IsSplit wish asked bytes files counts)
    → let made = split.2.are_files.are_files in
    (length (fates_in made) ≡ record_count bytes) × HaveOnePlace split.0.ledger.rows.items (length made.names) (fates_in made) (tracks_in made) counts

-- the records of the files of a split, and its counts, are together as many as the records of its table
abbrev pub RecordsOfASplitAddUp : Type 0
RecordsOfASplitAddUp = (wish : Wish) (asked : Asked) (bytes : List ℕ) (files : List TrackFile) (counts : List ℕ) → IsSplit wish asked bytes files counts
    → sum_by (λ file. file.records) files + sum counts ≡ record_count bytes
