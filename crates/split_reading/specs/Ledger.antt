-- What became of the records of a table.
use Rattle.std.specs.Prelude.{All, ◌≡◌, ◌≤◌, ◌<◌, ◌⊎◌, ℕ, ◌+◌, ◌++◌, Bool, true, false, nat_lt, length, if◌then◌else◌, List, [], ◌∷◌, Option, Some, None, Result, Ok, Err, option_map}
use Rattle.std.specs.List.{slice_index_or, slice_set}
use Rattle.split_times.specs.declared.moment.Moment.{Moment}
use Rattle.split_reading.specs.declared.fault.CellFault.{CellFault}
use Rattle.split_reading.specs.declared.fault.ReadingFault.{ReadingFault}
use Rattle.split_reading.specs.declared.fault.ReadingFault.TheVariants as faults
use Rattle.split_reading.specs.declared.ledger.Ledger.{Ledger}
use Rattle.split_reading.specs.declared.ledger.Row.{Row}
use Rattle.split_reading.specs.declared.rules.Rules.{Rules}
use Rattle.split_reading.specs.declared.told.Told.{Told}
use Rattle.split_reading.specs.declared.told.Told.TheVariants.{Fix, LeftOut}
use Rattle.split_reading.specs.Cells.{Record}
use Rattle.split_reading.specs.Told.{IsTimely, name_in, sensor_in, told_in}
use Rattle.split_reading.specs.Words.{place_of, texts, with_word}

-- names and that of one animal more, where there is one
abbrev pub with_name : List (List ℕ) → Option (List ℕ) → List (List ℕ)
with_name names None = names
with_name names (Some name) = with_word names name

-- names and that of a record
abbrev pub names_with : Rules → List (List ℕ) → Record → List (List ℕ)
names_with rules names fields = with_name names (name_in rules rules.animal.now fields)

-- sensors and that of a record
abbrev pub sensors_with : Rules → List (List ℕ) → Record → List (List ℕ)
sensors_with rules sensors fields = with_word sensors (sensor_in rules fields)

-- the number of a record's animal, if it names one, behind these names
abbrev pub animal_in : Rules → List (List ℕ) → Record → Option ℕ
animal_in rules names fields = option_map (place_of names) (name_in rules rules.animal.now fields)

-- the moment of the last fix of an animal, if it had one
abbrev pub last_of : List (Option Moment) → Option ℕ → Option Moment
last_of lasts None = None
last_of lasts (Some animal) = slice_index_or lasts animal None

-- the same behind what one more record of it says
abbrev pub last_behind : Option Moment → Told → Option Moment
last_behind before (LeftOut why) = before
last_behind before (Fix fix) = Some fix.moment

-- the last moments of animals, where that of one is this
abbrev pub with_last : List (Option Moment) → ℕ → Option Moment → List (Option Moment)
with_last lasts animal last = if nat_lt animal (length lasts) then slice_set lasts animal last else lasts ++ last ∷ []

-- the last moments of animals behind what a record of one says
abbrev pub lasts_with : List (Option Moment) → Option ℕ → Told → List (Option Moment)
lasts_with lasts None told = lasts
lasts_with lasts (Some animal) told = with_last lasts animal (last_behind (slice_index_or lasts animal None) told)

-- what a record says that comes behind these names and sensors
abbrev pub row_by : Rules → List (List ℕ) → List (List ℕ) → Record → Told → Row
row_by rules names sensors fields told = record {
  animal = animal_in rules names fields;
  sensor = place_of sensors (sensor_in rules fields);
  told = told;
}

-- a ledger: the names of the animals, the sensors, the moments of the animals' last fixes, and a row for each record
pub record Written : Type 0 where
  pub names : List (List ℕ)
  pub sensors : List (List ℕ)
  pub lasts : List (Option Moment)
  pub rows : List Row

-- a row before those of a ledger
abbrev pub with_row : Row → Result Written ReadingFault → Result Written ReadingFault
with_row row (Err fault) = Err fault
with_row row (Ok ledger) = Ok (record ledger { rows = row ∷ ledger.rows })

-- what is told of a record of this number, and then the others; or its fault
abbrev pub if_told : ℕ → Result Told CellFault → (Told → Result Written ReadingFault) → Result Written ReadingFault
if_told number (Err fault) more = Err (faults.Record number fault)
if_told number (Ok told) more = more told

-- what a record of this number says behind these names and last moments
abbrev pub told_behind : Rules → ℕ → List (List ℕ) → List (Option Moment) → Record → Result Told CellFault
told_behind rules number names lasts fields = told_in rules number (last_of lasts (animal_in rules names fields)) fields

-- the ledger of records behind so many others, which had these names, sensors and last moments; or the fault of the first that has
-- one
unfoldable pub ledger_from : Rules → ℕ → List (List ℕ) → List (List ℕ) → List (Option Moment) → List Record → Result Written ReadingFault
ledger_from rules count names sensors lasts [] = Ok (record { names = names; sensors = sensors; lasts = lasts; rows = [] })
ledger_from rules count names sensors lasts (fields ∷ records) =
    if_told (count + 1) (told_behind rules (count + 1) names lasts fields)
    (λ told. with_row (row_by rules names sensors fields told)
    (ledger_from rules (count + 1) (names_with rules names fields) (sensors_with rules sensors fields)
    (lasts_with lasts (animal_in rules names fields) told) records))

-- the ledger of the records of a table
abbrev pub ledger_of : Rules → List Record → Result Written ReadingFault
ledger_of rules records = ledger_from rules 0 [] [] [] records

-- why a record has no row behind a ledger: memory ran out, or it has a fault
abbrev pub IsRowFault : Rules → ℕ → Written → Record → ReadingFault → Type 0
IsRowFault rules number old fields fault =
    (fault ≡ faults.OutOfMemory)
    ⊎ ((own : CellFault) × (told_behind rules number old.names old.lasts fields ≡ Err own) × (fault ≡ faults.Record number own))

-- what is seen of a ledger
abbrev pub written : Ledger → Written
written ledger = record { names = texts ledger.names; sensors = texts ledger.sensors; lasts = ledger.lasts.items; rows = ledger.rows.items }

-- a ledger is that of these records
abbrev pub IsLedger : Rules → Ledger → List Record → Type 0
IsLedger rules ledger records = ledger_of rules records ≡ Ok (written ledger)

-- why these records have no ledger: memory ran out, there are too many, or one has a fault
abbrev pub IsLedgerFault : Rules → ReadingFault → List Record → Type 0
IsLedgerFault rules fault records =
    (fault ≡ faults.OutOfMemory) ⊎ (((fault ≡ faults.TooManyRecords) × (4_294_967_296 ≤ length records)) ⊎ (ledger_of rules records ≡ Err fault))

-- a ledger of so many records has no more names and sensors
abbrev pub IsWithin : ℕ → Written → Type 0
IsWithin count ledger = (length ledger.names ≤ count) × (length ledger.sensors ≤ count)

-- a ledger with one record more, which has this number
pub record Writes (rules : Rules) (number : ℕ) (old : Written) (fields : Record) (new : Written) : Type 0 where
  pub told : Told
  pub tells : told_behind rules number old.names old.lasts fields ≡ Ok told
  pub timely : IsTimely told
  pub names : new.names ≡ names_with rules old.names fields
  pub sensors : new.sensors ≡ sensors_with rules old.sensors fields
  pub lasts : new.lasts ≡ lasts_with old.lasts (animal_in rules old.names fields) told
  pub rows : new.rows ≡ old.rows ++ row_by rules old.names old.sensors fields told ∷ []

-- rows before those of a ledger
abbrev pub with_rows : List Row → Result Written ReadingFault → Result Written ReadingFault
with_rows rows (Err fault) = Err fault
with_rows rows (Ok ledger) = Ok (record ledger { rows = rows ++ ledger.rows })

-- what a ledger of so many records comes to with those that are left
abbrev pub finished : Rules → ℕ → Written → List Record → Result Written ReadingFault
finished rules count ledger records = with_rows ledger.rows (ledger_from rules count ledger.names ledger.sensors ledger.lasts records)

-- each row of a ledger is timely
abbrev pub AreTimely : List Row → Type 0
AreTimely rows = All (λ row. IsTimely row.told) rows

-- one of the records that are left was written, or there was none
abbrev pub GoesOn : Rules → ℕ → Written → Option (List Record) → Bool → Written → Option (List Record) → Type 0
GoesOn rules count old None found new after = found ≡ false
GoesOn rules count old (Some records) false new after = finished rules count old records ≡ Ok new
GoesOn rules count old (Some records) true new after =
    (more : List Record) × (after ≡ Some more) × (length records ≡ length more + 1) × (count < 4_294_967_295) × IsWithin (count + 1) new
    × (finished rules count old records ≡ finished rules (count + 1) new more)

-- why the next record was not written
abbrev pub IsFaultAt : Rules → ℕ → Written → ReadingFault → List Record → Type 0
IsFaultAt rules count ledger fault records =
    (fault ≡ faults.OutOfMemory) ⊎ (((fault ≡ faults.TooManyRecords) × (4_294_967_296 ≤ count + length records)) ⊎ (finished rules count ledger records ≡ Err fault))
