-- Why an export is refused, as far as that can be told.
use Rattle.std.specs.Prelude.{◌≡◌, ◌⊎◌, ℕ, List, Option, Some, None, Err}
use Rattle.range_plane.specs.declared.scale.Scale.{Scale}
use Rattle.split_export.specs.Export.{IsExport, IsExportFault}
use Rattle.split_export.specs.declared.asked.Asked.{Asked}
use Rattle.split_export.specs.declared.export.Export.{Export}
use Rattle.split_export.specs.declared.export.ExportFault.{ExportFault}
use Rattle.split_export.specs.declared.export.ExportFault.TheVariants as faults
use Rattle.split_reading.specs.declared.fault.ReadingFault.{ReadingFault}
use Rattle.split_reading.specs.declared.fault.ReadingFault.TheVariants as reading
use Rattle.split_reading.specs.declared.ledger.Ledger.{Ledger}
use Rattle.split_reading.specs.declared.ledger.Row.{Row}
use Rattle.split_titles.specs.declared.columns.Columns.{Columns}
use Rattle.split_fates.specs.Fates.{fates_of}
use Rattle.split_fates.specs.declared.choice.Choice.{Choice}
use Rattle.split_fates.specs.declared.fates.FatesFault.TheVariants.{OffGrid}
use Rattle.split_refusal.specs.Refused.{IsOfNoFix, Names, record_of_table}
use Rattle.split_refusal.specs.declared.refusal.Refusal.{Refusal}
use Rattle.split_chain.specs.declared.wish.Wish.{Wish}
use Rattle.split_chain.specs.Placed.{ArePlaced, IsChoice}

-- the record that a fault of records has
abbrev pub record_of_reading : ReadingFault → Option ℕ
record_of_reading reading.OutOfMemory = None
record_of_reading reading.TooManyRecords = None
record_of_reading (reading.Record number why) = Some number

-- the record that the fault of an export has
abbrev pub record_of : ExportFault → Option ℕ
record_of (faults.Text why) = None
record_of (faults.Table why) = record_of_table why
record_of (faults.Titles why) = None
record_of (faults.NotTaken why) = None
record_of (faults.Reading why) = record_of_reading why

-- a refusal is that of a fault that reading finds: it names the record that has it
abbrev pub IsOfFault : Asked → List ℕ → Refusal → Type 0
IsOfFault asked bytes refusal = (fault : ExportFault) × IsExportFault asked bytes fault × Names (record_of fault) refusal

-- a refusal is of a used fix that is off the grid, where records are of such rows and their fixes taken so: it names the first
-- that has one
pub record IsOffGridBy (choice : Choice) (rows : List Row) (refusal : Refusal) : Type 0 where
  pub number : ℕ
  pub is_first : fates_of choice rows ≡ Err (OffGrid number)
  pub names : Names (Some number) refusal

-- the same by the choice that the columns of a table and its rows come to
pub record IsOffGridAt {A : Type 0} (wish : Wish) (unit : Scale) (columns : Columns A) (rows : List Row) (refusal : Refusal) : Type 0 where
  pub choice : Choice
  pub is_choice : IsChoice columns rows unit wish.keeps_marks choice
  pub is_off_grid : IsOffGridBy choice rows refusal

-- the same of the ledger of a table, whose rows are placed
pub record IsOffGridOf {A : Type 0} (wish : Wish) (unit : Scale) (columns : Columns A) (ledger : Ledger) (refusal : Refusal) : Type 0 where
  pub rows : List Row
  pub are_placed : ArePlaced columns ledger.rows.items rows
  pub is_off_grid : IsOffGridAt wish unit columns rows refusal

-- a refusal is of the export that these bytes are, and of a fix of it that is off the grid; or it is of no fix
pub record IsOfExport (wish : Wish) (asked : Asked) (bytes : List ℕ) (refusal : Refusal) : Type 0 where
  pub export : Export
  pub is_export : IsExport asked bytes export
  pub is_refused : IsOffGridOf wish asked.unit export.columns export.ledger refusal ⊎ IsOfNoFix refusal

-- a refusal is of a fault that reading finds, or of a table in which reading finds none
abbrev pub IsRefused : Wish → Asked → List ℕ → Refusal → Type 0
IsRefused wish asked bytes refusal = IsOfFault asked bytes refusal ⊎ IsOfExport wish asked bytes refusal
