-- The table of an export, read.
use Rattle.std.specs.Prelude.{◌≡◌, ◌⊎◌, ⊤, ℕ, Bool, ◌==◌, ◌||◌, not, List, length, map, Some, None, Result, Ok, Err, Vec}
use Rattle.std.specs.Global.{Global}
use Rattle.split_reading.specs.Ledger.{AreTimely, IsLedger, IsLedgerFault}
use Rattle.split_reading.specs.declared.fault.ReadingFault.{ReadingFault}
use Rattle.split_reading.specs.declared.ledger.Ledger.{Ledger}
use Rattle.split_reading.specs.declared.fault.ReadingFault.TheVariants as reading
use Rattle.split_reading.specs.declared.rules.Rules.{Rules}
use Rattle.csv.specs.Reading.{strip_bom}
use Rattle.split_table.specs.Separator.{separator_of}
use Rattle.split_table.specs.Table.{IsRefused, Titled, table_of}
use Rattle.split_table.specs.TableLeft.{Record}
use Rattle.split_table.specs.declared.table.TableFault.{TableFault}
use Rattle.split_titles.specs.declared.columns.Columns.{Columns}
use Rattle.split_export.specs.declared.asked.Asked.{Asked}
use Rattle.split_export.specs.declared.export.Export.{Export}
use Rattle.split_export.specs.declared.export.ExportFault.{ExportFault}
use Rattle.split_export.specs.declared.export.ExportFault.TheVariants as faults
use Rattle.split_export.specs.declared.rules.NotTaken.{NotTaken}
use Rattle.split_export.specs.Rules.{AreRules, HasNoRules}
use Rattle.split_export.specs.Text.{text_fault}

-- the bytes of texts
abbrev pub bytes_of : {A : Type 0} → List (Vec ℕ A) → List (List ℕ)
bytes_of texts = map (λ text. text.items) texts

-- a table by its titles and its records
abbrev pub with_titles : Record → List Record → Titled
with_titles titles records = record { titles = titles; records = records }

-- something holds of a table that is one
abbrev pub IsTableWith : (Titled → Type 0) → Result Titled TableFault → Type 0
IsTableWith P (Ok table) = P table
IsTableWith P (Err fault) = ⊥

-- a text that is a table has these titles
abbrev pub HasTitles : {A : Type 0} → Result Titled TableFault → List (Vec ℕ A) → Type 0
HasTitles all titles = IsTableWith (λ table. bytes_of titles ≡ table.titles) all

-- whether commas may stand before decimals in a table: they do not part its fields, or did not part those of the texts of which it
-- was made
abbrev pub has_commas : Asked → List ℕ → Bool
has_commas asked bytes = asked.has_commas || not (separator_of (strip_bom bytes) == 44)

-- an export is that of a table: it has its titles, and what its records say by the rules that its columns and what is asked
-- come to
pub record IsOfTable (asked : Asked) (commas : Bool) (table : Titled) (export : Export) : Type 0 where
  pub titles : bytes_of export.titles.items ≡ table.titles
  pub rules : Rules
  pub are_rules : AreRules export.columns (length table.titles) commas asked rules
  pub is_ledger : IsLedger rules export.ledger table.records
  pub timely : AreTimely export.ledger.rows.items

-- an export is that of these bytes, which are the text of a table
abbrev pub IsExport : Asked → List ℕ → Export → Type 0
IsExport asked bytes export =
    (text_fault bytes ≡ None) × (export.text ≡ bytes) × IsTableWith (λ table. IsOfTable asked (has_commas asked bytes) table export) (table_of bytes)

-- there are no rules for some columns
abbrev pub IsNotTaken : Asked → NotTaken → Type 0
IsNotTaken asked fault = (columns : Columns Global) × HasNoRules columns asked fault

-- a ledger is that of records which are read by these columns
abbrev pub IsLedgerBy : Columns Global → ℕ → Bool → Asked → Ledger → List Record → Type 0
IsLedgerBy columns width commas asked ledger records = (rules : Rules) × AreRules columns width commas asked rules × IsLedger rules ledger records

-- the fault of records that are read by these columns of so many titles
abbrev pub IsFaultBy : Columns Global → ℕ → Bool → Asked → ReadingFault → List Record → Type 0
IsFaultBy columns width commas asked fault records = (rules : Rules) × AreRules columns width commas asked rules × IsLedgerFault rules fault records

-- why records are not read by these columns: there are no rules for them, or the records have a fault by the rules
abbrev pub IsColumnsFault : Columns Global → ℕ → Bool → Asked → ExportFault → List Record → Type 0
IsColumnsFault columns width commas asked (faults.Text why) records = ⊥
IsColumnsFault columns width commas asked (faults.Table why) records = ⊥
IsColumnsFault columns width commas asked (faults.Titles why) records = ⊥
IsColumnsFault columns width commas asked (faults.NotTaken why) records = HasNoRules columns asked why
IsColumnsFault columns width commas asked (faults.Reading why) records = IsFaultBy columns width commas asked why records

-- the fault of records that are read by some columns of so many titles
abbrev pub IsRuledFault : ℕ → Asked → Bool → ReadingFault → List Record → Type 0
IsRuledFault width asked commas fault records = (columns : Columns Global) × IsFaultBy columns width commas asked fault records

-- why a table is not read: there are no rules for it, memory ran out, or its records have a fault by the rules
abbrev pub IsTableFault : Asked → Bool → Titled → ExportFault → Type 0
IsTableFault asked commas table (faults.Text why) = ⊥
IsTableFault asked commas table (faults.Table why) = ⊥
IsTableFault asked commas table (faults.Titles why) = ⊤
IsTableFault asked commas table (faults.NotTaken why) = IsNotTaken asked why
IsTableFault asked commas table (faults.Reading why) = (why ≡ reading.OutOfMemory) ⊎ IsRuledFault (length table.titles) asked commas why table.records

-- why bytes are not read: they are no text, or the text is no table, or the table is not read
abbrev pub IsExportFault : Asked → List ℕ → ExportFault → Type 0
IsExportFault asked bytes (faults.Text why) = text_fault bytes ≡ Some why
IsExportFault asked bytes (faults.Table why) = (text_fault bytes ≡ None) × IsRefused (table_of bytes) why
IsExportFault asked bytes (faults.Titles why) = (text_fault bytes ≡ None) × IsTableWith (λ table. ⊤) (table_of bytes)
IsExportFault asked bytes (faults.NotTaken why) = (text_fault bytes ≡ None) × IsTableWith (λ table. IsNotTaken asked why) (table_of bytes)
IsExportFault asked bytes (faults.Reading why) =
    (text_fault bytes ≡ None) × IsTableWith (λ table. IsTableFault asked (has_commas asked bytes) table (faults.Reading why)) (table_of bytes)
