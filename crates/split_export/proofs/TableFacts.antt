-- What holds of a table that was opened holds of that of its text.
use Rattle.std.proofs.Common.{◌≡◌, ◌∙◌, ℕ, Bool, List, Option, Some, None, Result, Ok, Err, IfErr, IfSome, Vec, Global, length, ap, inr, subst, sym}
use Rattle.std.specs.Bool.{⊤}
use Rattle.std.proofs.lemmas.List.{length-map}
use Rattle.split_reading.specs.Ledger.{AreTimely}
use Rattle.split_reading.specs.declared.ledger.Ledger.{Ledger}
use Rattle.split_export.specs.Export.{IsColumnsFault, IsExportFault, IsFaultBy, IsLedgerBy, IsOfTable, IsTableFault, IsTableWith, bytes_of, has_commas, with_titles}
use Rattle.split_export.specs.Rules.{AreRules}
use Rattle.split_export.specs.Text.{text_fault}
use Rattle.split_export.specs.declared.asked.Asked.{Asked}
use Rattle.split_export.specs.declared.export.Export.{Export}
use Rattle.split_export.specs.declared.export.ExportFault.{ExportFault}
use Rattle.split_export.specs.declared.export.ExportFault.TheVariants as faults
use Rattle.split_table.specs.Table.{IsTable, Titled, table_of}
use Rattle.split_table.specs.TableLeft.{Record, TableLeft}
use Rattle.split_table.specs.declared.table.TableFault.{TableFault}
use Rattle.split_titles.specs.declared.columns.Columns.{Columns}

inner : {X : Type 0} {x y : X} → ◌≡◌ {A = Option X} (Some x) (Some y) → x ≡ y
inner e = cc e

pub of_table : (P : Titled → Type 0) (all : Result Titled TableFault) (table : TableLeft) → IsTable all table → IfSome table.left (λ records. P (with_titles table.titles records))
    → IsTableWith P all
of_table P all table is holds = by table.left is holds
  where
    by : (left : Option (List Record)) → IsTable all (record { titles = table.titles; left = left; current = table.current }) → IfSome left (λ records. P (with_titles table.titles records)) → IsTableWith P all
    by None is holds = absurd (cc is)
    by (Some records) is holds = subst (IsTableWith P) (inner is) holds

-- there are as many texts as there are titles
as_many : (own : List (Vec ℕ Global)) (titles : Record) → bytes_of own ≡ titles → length own ≡ length titles
as_many own titles is = sym (length-map own (λ text. text.items)) ∙ ap length is

-- a table is read whose records have a ledger by its columns
pub exported : (asked : Asked) (commas : Bool) (text : List ℕ) (titles : Record) (left : Option (List Record)) (own : Vec (Vec ℕ Global) Global) (columns : Columns Global) (ledger : Ledger)
    → bytes_of own.items ≡ titles → IfSome left (IsLedgerBy columns (length own.items) commas asked ledger) → AreTimely ledger.rows.items
    → IfSome left (λ records. IsOfTable asked commas (with_titles titles records) (record { text = text; titles = own; columns = columns; ledger = ledger }))
exported asked commas text titles None own columns ledger is is_ledger timely = tt
exported asked commas text titles (Some records) own columns ledger is (rules, are_rules, is_ledger) timely = record {
  titles = is;
  rules = rules;
  are_rules = subst (λ (width : ℕ). AreRules columns width commas asked rules) (as_many own.items titles is) are_rules;
  is_ledger = is_ledger;
  timely = timely;
}

-- why records are not read by columns is why their table is not read
pub unread : (asked : Asked) (commas : Bool) (titles : Record) (left : Option (List Record)) (own : List (Vec ℕ Global)) (columns : Columns Global) (fault : ExportFault)
    → bytes_of own ≡ titles → IfSome left (IsColumnsFault columns (length own) commas asked fault)
    → IfSome left (λ records. IsTableFault asked commas (with_titles titles records) fault)
unread asked commas titles None own columns fault is of_columns = tt
unread asked commas titles (Some records) own columns (faults.Text why) is of_columns = of_columns
unread asked commas titles (Some records) own columns (faults.Table why) is of_columns = of_columns
unread asked commas titles (Some records) own columns (faults.Titles why) is of_columns = tt
unread asked commas titles (Some records) own columns (faults.NotTaken why) is of_columns = (columns, of_columns)
unread asked commas titles (Some records) own columns (faults.Reading why) is of_columns =
    inr (columns, subst (λ (width : ℕ). IsFaultBy columns width commas asked why records) (as_many own titles is) of_columns)

-- nothing is a table of which nothing can hold
no_table : (all : Result Titled TableFault) → IsTableWith (λ table. ⊥) all → ⊥
no_table (Ok table) holds = holds
no_table (Err fault) holds = holds

-- the fault of a table is that of its bytes
pub of_bytes : (asked : Asked) (bytes : List ℕ) (table : TableLeft) (fault : ExportFault) → text_fault bytes ≡ None → IsTable (table_of bytes) table
    → IfSome table.left (λ records. IsTableFault asked (has_commas asked bytes) (with_titles table.titles records) fault) → IsExportFault asked bytes fault
of_bytes asked bytes table (faults.Text why) none is h = absurd (no_table (table_of bytes) (of_table (λ t. ⊥) (table_of bytes) table is h))
of_bytes asked bytes table (faults.Table why) none is h = absurd (no_table (table_of bytes) (of_table (λ t. ⊥) (table_of bytes) table is h))
of_bytes asked bytes table (faults.Titles why) none is h = (none, of_table (λ t. ⊤) (table_of bytes) table is h)
of_bytes asked bytes table (faults.NotTaken why) none is h = (none, of_table (λ t. IsTableFault asked (has_commas asked bytes) t (faults.NotTaken why)) (table_of bytes) table is h)
of_bytes asked bytes table (faults.Reading why) none is h = (none, of_table (λ t. IsTableFault asked (has_commas asked bytes) t (faults.Reading why)) (table_of bytes) table is h)

-- why a table is not read is why its bytes are not read, where it was opened by a text that has them
pub of_read : (asked : Asked) (bytes own : List ℕ) (commas : Bool) (table : TableLeft) (found : Result Export ExportFault)
    → text_fault bytes ≡ None → own ≡ bytes → commas ≡ has_commas asked bytes → IsTable (table_of own) table
    → IfErr found (λ fault. IfSome table.left (λ records. IsTableFault asked commas (with_titles table.titles records) fault)) → IfErr found (IsExportFault asked bytes)
of_read asked bytes own commas table (Ok export) none is_own is_comma is h = tt
of_read asked bytes own commas table (Err fault) none is_own is_comma is h =
    of_bytes asked bytes table fault none (subst (λ (l : List ℕ). IsTable (table_of l) table) is_own is)
    (subst (λ (b : Bool). IfSome table.left (λ records. IsTableFault asked b (with_titles table.titles records) fault)) is_comma h)
