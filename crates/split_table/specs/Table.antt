-- The table of a text, and reading its records in turn.
use Rattle.std.specs.Prelude.{◌≡◌, ◌⊎◌, ◌+◌, ⊤, ℕ, Bool, true, false, List, ◌∷◌, [], length, Option, Some, None, Result, Ok, Err, option_map, ◌==◌, ◌&&◌, nat_le, slice_index}
use Rattle.csv.specs.Reading.{Ready, has_failed, is_flexible, reader_config, reader_state, reader_trim, records, records_from, source_of, strip_bom}
use Rattle.csv.specs.Records.{fields_of}
use Rattle.csv.specs.declared.parser.Config.{Config}
use Rattle.csv.specs.declared.parser.State.{State}
use Rattle.csv.specs.declared.reader.Reader.{Reader}
use Rattle.csv.specs.declared.reader.Trim.TheVariants as trim
use Rattle.split_table.specs.Quotes.{config_by, quote_fault_of}
use Rattle.split_table.specs.Separator.{separator_of}
use Rattle.split_table.specs.TableLeft.{Record, TableLeft}
use Rattle.split_table.specs.declared.table.Table.TheInside.{Inside}
use Rattle.split_table.specs.declared.table.TableFault.{TableFault}
use Rattle.split_table.specs.declared.table.TableFault.TheVariants.{NoTitles, OutOfMemory}

-- whether a text begins with a byte order mark
abbrev pub has_mark : List ℕ → Bool
has_mark text = nat_le 3 (length text) && slice_index text 0 == 0xEF && slice_index text 1 == 0xBB && slice_index text 2 == 0xBF

-- a table: its titles, and the records below them
pub record Titled : Type 0 where
  pub titles : Record
  pub records : List Record

-- a table by all its records, of which the first are the titles
abbrev pub titled : List Record → Result Titled TableFault
titled [] = Err NoTitles
titled (titles ∷ records) = Ok (record { titles = titles; records = records })

-- a table by its records, where its quotes have no fault
abbrev pub table_by : Option TableFault → List Record → Result Titled TableFault
table_by (Some fault) all = Err fault
table_by None all = titled all

-- the table of a text with fields between such separators
abbrev pub table_with : ℕ → List ℕ → Result Titled TableFault
table_with separator text = table_by (quote_fault_of separator text) (records (config_by separator) text)

-- the table of a text
unfoldable pub table_of : List ℕ → Result Titled TableFault
table_of text = table_with (separator_of (strip_bom text)) (strip_bom text)

-- the quotes of a text have no fault, whose fields stand between such separators
abbrev pub HasNoFault : ℕ → List ℕ → Type 0
HasNoFault separator text = (separator ≡ separator_of (strip_bom text)) × (quote_fault_of separator (strip_bom text) ≡ None)

-- the records of a text from this state on
abbrev pub records_of : Config → State → List ℕ → List Record
records_of cfg state text = records_from cfg (length text + 1) state text

-- the records that a reader has left
abbrev pub records_left : {R : Type 0} → (R → Option (List ℕ)) → Reader R → Option (List Record)
records_left remaining reader = option_map (records_of (reader_config reader) (reader_state reader)) (source_of remaining reader)

-- what is seen of a table
abbrev pub table_left : Inside → TableLeft
table_left a = record { titles = fields_of a.titles; left = records_left (λ s. Some s.now) a.reader; current = fields_of a.current }

-- the reader reads every record in the same way, and the first no other way
abbrev pub IsPlain : {R : Type 0} → Reader R → Type 0
IsPlain reader = (has_failed reader ≡ true) ⊎ ((reader_trim reader ≡ trim.None) × (is_flexible reader ≡ true) × Ready reader)

-- a table of which no record was read
abbrev pub IsTable : Result Titled TableFault → TableLeft → Type 0
IsTable all table = option_map (λ records. Ok (record { titles = table.titles; records = records })) table.left ≡ Some all

-- why a text is no table: as its definition says, or memory ran out
abbrev pub IsRefused : Result Titled TableFault → TableFault → Type 0
IsRefused all fault = (fault ≡ OutOfMemory) ⊎ (all ≡ Err fault)

-- a read took the first of the records that were left, or found that there is none
abbrev pub TakesRecord : Option (List Record) → Bool → Record → Option (List Record) → Type 0
TakesRecord None found fields after = ⊤
TakesRecord (Some records) true fields after = (more : List Record) × (records ≡ fields ∷ more) × (after ≡ Some more)
TakesRecord (Some records) false fields after = records ≡ []
