-- What a record says: its fix, or why it is left out, or its first fault.
use Rattle.std.specs.Prelude.{⊤, [], ◌∷◌, ℕ, ℤ, Bool, ◌==◌, ◌&&◌, not, if◌then◌else◌, List, length, Option, Some, None, is_some, Result, Ok, Err}
use Rattle.split_filters.specs.Filters.{is_of_sensor, left_for}
use Rattle.split_filters.specs.Words.{class_name, is_known_class, sensor_name}
use Rattle.split_clock.specs.declared.twice.ClockMoment.{ClockMoment}
use Rattle.split_times.specs.declared.moment.Moment.{Moment}
use Rattle.split_tracks.specs.declared.fate.Reason.{Reason}
use Rattle.split_tracks.specs.declared.fate.Reason.TheVariants as reason
use Rattle.split_reading.specs.declared.fault.CellFault.{CellFault}
use Rattle.split_reading.specs.declared.fault.CellFault.TheVariants.{FieldCount, NoAnimal}
use Rattle.split_reading.specs.declared.place.Place.{Place}
use Rattle.split_reading.specs.declared.place.Place.TheVariants.{At, Zero, Missing}
use Rattle.split_reading.specs.declared.place.Position.{Position}
use Rattle.split_reading.specs.declared.rules.Rules.{Rules}
use Rattle.split_reading.specs.declared.told.Told.{Told}
use Rattle.split_reading.specs.declared.told.Told.TheVariants.{Fix, LeftOut}
use Rattle.split_reading.specs.declared.told.ToldFix.{ToldFix}
use Rattle.split_reading.specs.declared.zone.Zone.{Zone}
use Rattle.split_reading.specs.Cells.{◌>>=◌, Record, cell, field, trillionths_in, word_in}
use Rattle.split_reading.specs.Marks.{is_used_in}
use Rattle.split_reading.specs.Moments.{IsTimelyMoment, moment_in}
use Rattle.split_reading.specs.Places.{place_in}
use Rattle.split_reading.specs.Zones.{zone_in, zone_or_at}

-- a name, where there is one
abbrev pub filled : List ℕ → Option (List ℕ)
filled name = if length name == 0 then None else Some name

-- the first of some columns that is not empty in a record; empty where all are
abbrev pub first_filled : Rules → List ℕ → Record → List ℕ
first_filled rules [] fields = []
first_filled rules (column ∷ columns) fields =
    if length (cell rules fields column) == 0 then first_filled rules columns fields else cell rules fields column

-- the name of the animal of a record: the first that stands in one of these columns, or the one name where there are none
abbrev pub name_in : Rules → List ℕ → Record → Option (List ℕ)
name_in rules columns fields = if length columns == 0 then Some rules.name.now else filled (first_filled rules columns fields)

-- the sensor of a record; empty where it names none
abbrev pub sensor_in : Rules → Record → List ℕ
sensor_in rules fields = sensor_name (word_in rules rules.sensor fields)

-- the class of Argos of a record, which is one even if it is a word for what is missing; empty where it names none
abbrev pub class_in : Rules → Option ℕ → Record → List ℕ
class_in rules None fields = []
class_in rules (Some column) fields =
    if is_known_class (field fields column) then class_name (field fields column) else class_name (word_in rules (Some column) fields)

-- the dilution of precision of a record in this column, in trillionths
abbrev pub dop_in : Rules → Option ℕ → Record → Result (Option ℤ) CellFault
dop_in rules None fields = Ok None
dop_in rules (Some column) fields = trillionths_in rules column (cell rules fields column)

-- the first reason for which filters leave out the fix of a record of this second
abbrev pub reason_in : Rules → ℕ → Record → Result (Option Reason) CellFault
reason_in rules second fields = do
  dop ← dop_in rules rules.dop fields
  Ok (left_for rules.filters (class_in rules rules.class fields) dop (word_in rules rules.fix_type fields) second)

-- the fix of a record at a position, of which these things are known
abbrev pub fix_at : Rules → Position → Bool → ClockMoment → Option Zone → Option Reason → Record → ToldFix
fix_at rules position is_used time zone left_for fields = record {
  moment = time.moment;
  is_local = time.is_local;
  is_twice = time.is_twice;
  metres = position.metres;
  degrees = position.degrees;
  zone = zone_or_at zone position.degrees;
  is_used = is_used;
  is_of_sensor = is_of_sensor rules.filters (sensor_in rules fields);
  has_class = not (length (class_in rules rules.class fields) == 0);
  left_for = left_for;
}

-- whether a fix is used, and no filter leaves it out
abbrev pub is_taken : ToldFix → Bool
is_taken fix = fix.is_used && fix.is_of_sensor && not (is_some fix.left_for)

-- the fix of a record of this number, behind one of this moment of the same animal, at a position: its marks are read first, then
-- its time, its zone and what filters look at
abbrev pub fix_in : Rules → ℕ → Option Moment → Position → Record → Result Told CellFault
fix_in rules number before position fields = do
  is_used ← is_used_in rules fields
  time ← moment_in rules number before fields
  zone ← zone_in rules fields
  reason ← reason_in rules time.moment.second fields
  Ok (Fix (fix_at rules position is_used time zone reason fields))

-- the same, where the record names an animal; else it is left out, or that is a fault
abbrev pub named_fix_in : Rules → ℕ → Option Moment → Position → Record → Result Told CellFault
named_fix_in rules number before position fields =
    if is_some (name_in rules rules.animal.now fields) then fix_in rules number before position fields
    else if rules.skips_unnamed then Ok (LeftOut reason.Animal)
    else Err NoAnimal

-- what a record of this number says that is at a place; of one without coordinates nothing else is read
abbrev pub told_at : Rules → ℕ → Option Moment → Record → Place → Result Told CellFault
told_at rules number before fields Missing = Ok (LeftOut reason.Coordinates)
told_at rules number before fields Zero = Ok (LeftOut reason.Zero)
told_at rules number before fields (At position) = named_fix_in rules number before position fields

-- what a record of this number says, behind a fix of this moment of the same animal, if there was one; or its first fault
abbrev pub told_in : Rules → ℕ → Option Moment → Record → Result Told CellFault
told_in rules number before fields =
    if length fields == rules.width then (place_in rules fields >>= told_at rules number before fields)
    else Err (FieldCount (length fields))

-- the moment of a fix, if a record tells of one, is one that a file may have
abbrev pub IsTimely : Told → Type 0
IsTimely (LeftOut why) = ⊤
IsTimely (Fix fix) = IsTimelyMoment fix.moment
