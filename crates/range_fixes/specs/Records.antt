-- Reading the records of a source in turn.
use Rattle.std.specs.Prelude.{◌≡◌, ◌⊎◌, ◌+◌, ⊤, ℕ, Bool, true, false, List, ◌∷◌, [], length, Option, Some, None, option_map}
use Rattle.csv.specs.Reading.{Ready, default_config, has_failed, is_flexible, reader_config, reader_state, reader_trim, records, records_from, source_of, strip_bom}
use Rattle.csv.specs.Records.{fields_of}
use Rattle.csv.specs.declared.parser.State.{State}
use Rattle.csv.specs.declared.reader.Reader.{Reader}
use Rattle.csv.specs.declared.reader.Trim.TheVariants as trim
use Rattle.range_fixes.specs.declared.records.Records.TheInside.{Inside}
use Rattle.range_fixes.specs.Field.{Record}
use Rattle.range_fixes.specs.RecordList.{RecordList}

-- the records of a text from this state on
abbrev pub records_of : State → List ℕ → List Record
records_of state text = records_from default_config (length text + 1) state text

-- the records of a source, where it tells its bytes
abbrev pub records_in : {S : Type 0} → (S → Option (List ℕ)) → S → Option (List Record)
records_in remaining source = option_map (λ bytes. records default_config (strip_bom bytes)) (remaining source)

abbrev pub records_left : {R : Type 0} → (R → Option (List ℕ)) → Reader R → Option (List Record)
records_left remaining reader = option_map (records_of (reader_state reader)) (source_of remaining reader)

abbrev pub record_list : {R : Type 0} → (R → Option (List ℕ)) → Inside R → RecordList
record_list remaining a = record { left = records_left remaining a.reader; current = fields_of a.current; read_failed = has_failed a.reader }

-- the reader reads every record in the same way, as the settings say, and the first no other way
abbrev pub IsPlain : {R : Type 0} → Reader R → Type 0
IsPlain reader = (has_failed reader ≡ true)
    ⊎ ((reader_config reader ≡ default_config) × (reader_trim reader ≡ trim.None) × (is_flexible reader ≡ true) × Ready reader)

-- a read took the first of the records that were left, or found that there is none
abbrev pub TakesRecord : Option (List Record) → Bool → Record → Option (List Record) → Type 0
TakesRecord None found fields after = ⊤
TakesRecord (Some records) true fields after = (more : List Record) × (records ≡ fields ∷ more) × (after ≡ Some more)
TakesRecord (Some records) false fields after = records ≡ []
