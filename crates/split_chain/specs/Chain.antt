-- From the bytes of an export to the files of its tracks.
use Rattle.std.specs.Prelude.{◌≡◌, ◌<◌, ◌^◌, if◌then◌else◌, ℕ, Bool, List, Vec, length, map, option_map, Option, Some, None, Ok}
use Rattle.range_plane.specs.declared.scale.Scale.{Scale}
use Rattle.split_reading.specs.Words.{texts}
use Rattle.split_reading.specs.declared.ledger.Ledger.{Ledger}
use Rattle.split_reading.specs.declared.ledger.Row.{Row}
use Rattle.split_titles.specs.declared.columns.Columns.{Columns}
use Rattle.split_tracks.specs.Tracks.{tracks_of}
use Rattle.split_tracks.specs.declared.fate.Entry.{Entry}
use Rattle.split_tracks.specs.declared.fate.Fate.{Fate}
use Rattle.split_counts.specs.Counts.{left_counts}
use Rattle.split_fates.specs.Fates.{fates_of}
use Rattle.split_fates.specs.declared.choice.Choice.{Choice}
use Rattle.split_names.specs.Names.{file_names}
use Rattle.split_pace.specs.Leave.{without}
use Rattle.split_pace.specs.declared.filter.Filter.{Filter}
use Rattle.split_pace.specs.declared.filter.Filter.TheVariants.{Every, MaxSpeed}
use Rattle.split_export.specs.Export.{IsExport}
use Rattle.split_export.specs.Files.{Filed, filed, files_of}
use Rattle.split_export.specs.declared.asked.Asked.{Asked}
use Rattle.split_export.specs.declared.export.Export.{Export}
use Rattle.split_export.specs.declared.files.TrackFile.{TrackFile}
use Rattle.split_record.specs.Fates.{fates_text}
use Rattle.split_said.specs.Order.{animals_in_order}
use Rattle.split_chain.specs.declared.wish.Wish.{Wish}
use Rattle.split_chain.specs.Placed.{ArePlaced, IsChoice}

-- the tracks of animals with these names, of which there are as many
abbrev pub tracks_with : List (List ℕ) → List Fate → List (List Entry)
tracks_with names fates = tracks_of (length names) fates

-- the filters by speed and by pieces of time, where they are wished
abbrev pub speed_filter : Wish → Scale → Option Filter
speed_filter wish unit = option_map (λ speed. MaxSpeed unit speed) wish.speed

abbrev pub every_filter : Wish → Option Filter
every_filter wish = option_map (λ length. Every length wish.clock) wish.every

-- fates once a filter, if there is one, left some out of the tracks of so many animals
abbrev pub filtered_by : Option Filter → ℕ → List Fate → List Fate
filtered_by None animals fates = fates
filtered_by (Some filter) animals fates = without filter animals fates

-- fates once both filters did, that by speed first
abbrev pub filtered : Wish → Scale → ℕ → List Fate → List Fate
filtered wish unit animals fates = filtered_by (every_filter wish) animals (filtered_by (speed_filter wish unit) animals fates)

-- files are those of records with these fates, of animals whose files have these names and are fewer than there are numbers of 32
-- bits, and counts those of what is left out
pub record AreMade (choice : Choice) (names : List (List ℕ)) (fates : List Fate) (files : List Filed) (counts : List ℕ) : Type 0 where
  pub few : length names < 2 ^ 32
  pub are_files : files ≡ files_of choice names (tracks_with names fates)
  pub are_counts : counts ≡ left_counts (length names) fates

-- files are those of what records say, and counts those of the records that are left out: each record has its fate by the
-- choice and the filters, each animal the name of a file, and each track its file
pub record AreFilesBy (wish : Wish) (choice : Choice) (animals : List (List ℕ)) (rows : List Row) (files : List Filed) (counts : List ℕ) : Type 0 where
  pub fates : List Fate
  pub are_fates : fates_of choice rows ≡ Ok fates
  pub names : List (List ℕ)
  pub are_names : file_names animals ≡ Ok names
  pub are_made : AreMade choice names (filtered wish choice.unit (length names) fates) files counts

-- the same by the choice that the columns of a table and its rows come to
pub record AreFilesAt {A : Type 0} (wish : Wish) (unit : Scale) (columns : Columns A) (animals : List (List ℕ)) (rows : List Row) (files : List Filed) (counts : List ℕ) : Type 0 where
  pub choice : Choice
  pub is_choice : IsChoice columns rows unit wish.keeps_marks choice
  pub are_files : AreFilesBy wish choice animals rows files counts

-- the same of the ledger of a table, whose rows are placed
pub record AreFilesOf {A : Type 0} (wish : Wish) (unit : Scale) (columns : Columns A) (ledger : Ledger) (files : List Filed) (counts : List ℕ) : Type 0 where
  pub rows : List Row
  pub are_placed : ArePlaced columns ledger.rows.items rows
  pub are_files : AreFilesAt wish unit columns (texts ledger.names) rows files counts

-- what became of each record as text, where that is wished, of animals whose files have these names
abbrev pub records_with : Bool → List (List ℕ) → List Fate → Option (List ℕ)
records_with is_wished names fates = if is_wished then Some (fates_text names fates) else None

-- a text that there may be
abbrev pub text_in : {A : Type 0} → Option (Vec ℕ A) → Option (List ℕ)
text_in text = option_map (λ own. own.items) text

-- the files are those of the table of these bytes, and the counts those of its records
abbrev pub IsSplit : Wish → Asked → List ℕ → List TrackFile → List ℕ → Type 0
IsSplit wish asked bytes files counts =
    (export : Export) × IsExport asked bytes export × AreFilesOf wish asked.unit export.columns export.ledger (map filed files) counts

-- the animals that have a record in their file, in the order of the first such
abbrev pub order_in : {wish : Wish} {choice : Choice} {animals : List (List ℕ)} {rows : List Row} {files : List Filed} {counts : List ℕ}
    → AreFilesBy wish choice animals rows files counts → List ℕ
order_in {wish} {choice} made = animals_in_order (length made.names) (filtered wish choice.unit (length made.names) made.fates)

-- what became of each record as text, where that is wished
abbrev pub records_in : {wish : Wish} {choice : Choice} {animals : List (List ℕ)} {rows : List Row} {files : List Filed} {counts : List ℕ}
    → AreFilesBy wish choice animals rows files counts → Option (List ℕ)
records_in {wish} {choice} made =
    records_with wish.lists_records made.names (filtered wish choice.unit (length made.names) made.fates)

-- what is told of files beside them: the order of animals, and what became of each record
abbrev pub AreTold : {A : Type 0} {wish : Wish} {choice : Choice} {animals : List (List ℕ)} {rows : List Row} {files : List Filed} {counts : List ℕ}
    → AreFilesBy wish choice animals rows files counts → List ℕ → Option (Vec ℕ A) → Type 0
AreTold made order records = (order ≡ order_in made) × (text_in records ≡ records_in made)

-- a split with such files and counts, whose animals come in this order
abbrev pub IsOrdered : Wish → Asked → List ℕ → List TrackFile → List ℕ → List ℕ → Type 0
IsOrdered wish asked bytes files counts order = (split : IsSplit wish asked bytes files counts) × (order ≡ order_in split.2.are_files.are_files)

-- a split with such files and counts, of whose records this is the text
abbrev pub IsListed : {A : Type 0} → Wish → Asked → List ℕ → List TrackFile → List ℕ → Option (Vec ℕ A) → Type 0
IsListed wish asked bytes files counts records =
    (split : IsSplit wish asked bytes files counts) × (text_in records ≡ records_in split.2.are_files.are_files)
