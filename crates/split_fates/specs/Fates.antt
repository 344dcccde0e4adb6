-- What becomes of the records of a table.
use Rattle.std.specs.Prelude.{◌≡◌, ◌⊎◌, ◌≤◌, ℕ, length, ◌+◌, ℤ, pos, ◌+ℤ◌, int_le, Bool, true, false, ◌==◌, ◌&&◌, not, if◌then◌else◌, List, [], ◌∷◌, Option, Some, None, Result, Ok, Err}
use Rattle.range_plane.specs.Scale.{limit}
use Rattle.range_plane.specs.declared.scale.Scale.{Scale}
use Rattle.split_reading.specs.declared.ledger.Row.{Row}
use Rattle.split_reading.specs.declared.told.Told.{Told}
use Rattle.split_reading.specs.declared.told.Told.TheVariants as told
use Rattle.split_reading.specs.declared.told.ToldFix.{ToldFix}
use Rattle.split_reading.specs.declared.zone.Zone.{Zone}
use Rattle.split_tracks.specs.declared.fate.Entry.{Entry}
use Rattle.split_tracks.specs.declared.fate.Fate.{Fate}
use Rattle.split_tracks.specs.declared.fate.Fate.TheVariants.{InTrack, LeftOut}
use Rattle.split_tracks.specs.declared.fate.Reason.{Reason}
use Rattle.split_tracks.specs.declared.fate.Reason.TheVariants as reason
use Rattle.split_fates.specs.declared.choice.Choice.{Choice}
use Rattle.split_fates.specs.declared.fates.FatesFault.{FatesFault}
use Rattle.split_fates.specs.declared.fates.FatesFault.TheVariants.{OffGrid, OutOfMemory, TooManyRecords}

-- whether two zones are one
abbrev pub is_same_half : Bool → Bool → Bool
is_same_half true own = own
is_same_half false own = not own

abbrev pub is_same_zone : Zone → Zone → Bool
is_same_zone zone own = zone.number == own.number && is_same_half zone.is_south own.is_south

-- whether a fix is of the zone that is taken, if one is; one that is of no zone is
abbrev pub is_of_zone : Option Zone → Option Zone → Bool
is_of_zone None own = true
is_of_zone (Some zone) (Some own) = is_same_zone zone own
is_of_zone (Some zone) None = true

-- whether a coordinate is on the grid once it is shifted
abbrev pub is_on_grid : Scale → ℤ → ℤ → Bool
is_on_grid unit shift coordinate = int_le (pos 0) (coordinate +ℤ shift) && int_le (coordinate +ℤ shift) (pos (limit unit))

-- whether a fix is of the zone, and on the grid
abbrev pub is_placed : Choice → Entry → Option Zone → Bool
is_placed choice entry zone =
    is_of_zone choice.zone zone && is_on_grid choice.unit choice.shift.0 entry.easting && is_on_grid choice.unit choice.shift.1 entry.northing

-- a fix that has no place: a fault where it is used, else it is left out
abbrev pub without_place : ℕ → ℕ → Bool → Result Fate FatesFault
without_place animal number is_used = if is_used then Err (OffGrid number) else Ok (LeftOut (Some animal) reason.Grid)

-- what becomes of a fix that has metres
abbrev pub placed_fate : Choice → ℕ → Entry → Option Zone → Result Fate FatesFault
placed_fate choice animal entry zone =
    if is_placed choice entry zone then Ok (InTrack animal entry) else without_place animal entry.«record» entry.is_used

-- the entry of a fix at these metres
abbrev pub entry_at : ℕ → ToldFix → ℤ × ℤ → Entry
entry_at number fix metres = record { «record» = number; moment = fix.moment; easting = metres.0; northing = metres.1; is_used = fix.is_used }

-- the same of one that has metres or none
abbrev pub metres_fate : Choice → ℕ → ℕ → ToldFix → Option (ℤ × ℤ) → Result Fate FatesFault
metres_fate choice animal number fix None = without_place animal number fix.is_used
metres_fate choice animal number fix (Some metres) = placed_fate choice animal (entry_at number fix metres) fix.zone

-- why the fix of a record is left out: it is of another sensor; it is not used, unless such ones are kept; or filters leave it out
abbrev pub reason_of : Bool → ToldFix → Option Reason
reason_of keeps_marks fix =
    if not fix.is_of_sensor then Some reason.Sensor else if not fix.is_used && not keeps_marks then Some reason.Outlier else fix.left_for

-- why a record is left out before it is known on which grid fixes are
abbrev pub told_reason : Bool → Told → Option Reason
told_reason keeps_marks (told.LeftOut why) = Some why
told_reason keeps_marks (told.Fix fix) = reason_of keeps_marks fix

abbrev pub row_reason : Bool → Row → Option Reason
row_reason keeps_marks row = told_reason keeps_marks row.told

-- what becomes of a fix by the reason for which it is left out, if it is
abbrev pub fate_by : Choice → ℕ → ℕ → ToldFix → Option Reason → Result Fate FatesFault
fate_by choice animal number fix (Some why) = Ok (LeftOut (Some animal) why)
fate_by choice animal number fix None = metres_fate choice animal number fix fix.metres

-- what becomes of the fix of a record
abbrev pub fix_fate : Choice → ℕ → ℕ → ToldFix → Result Fate FatesFault
fix_fate choice animal number fix = fate_by choice animal number fix (reason_of choice.keeps_marks fix)

-- the same by its animal, without which a fix is left out
abbrev pub animal_fate : Choice → ℕ → ToldFix → Option ℕ → Result Fate FatesFault
animal_fate choice number fix None = Ok (LeftOut None reason.Animal)
animal_fate choice number fix (Some animal) = fix_fate choice animal number fix

-- what becomes of a record that says this
abbrev pub told_fate : Choice → ℕ → Option ℕ → Told → Result Fate FatesFault
told_fate choice number animal (told.LeftOut why) = Ok (LeftOut animal why)
told_fate choice number animal (told.Fix fix) = animal_fate choice number fix animal

-- what becomes of the record of this number
abbrev pub fate_of : Choice → ℕ → Row → Result Fate FatesFault
fate_of choice number row = told_fate choice number row.animal row.told

-- a fate before others, unless these have a fault
abbrev pub with_fate : Fate → Result (List Fate) FatesFault → Result (List Fate) FatesFault
with_fate fate (Ok fates) = Ok (fate ∷ fates)
with_fate fate (Err fault) = Err fault

-- a fate, and then the others; or its fault
abbrev pub then_fates : Result Fate FatesFault → Result (List Fate) FatesFault → Result (List Fate) FatesFault
then_fates (Ok fate) fates = with_fate fate fates
then_fates (Err fault) fates = Err fault

-- what becomes of records behind so many others
unfoldable pub fates_from : Choice → ℕ → List Row → Result (List Fate) FatesFault
fates_from choice count [] = Ok []
fates_from choice count (row ∷ rows) = then_fates (fate_of choice (count + 1) row) (fates_from choice (count + 1) rows)

-- what becomes of the records of a table, numbered from 1
abbrev pub fates_of : Choice → List Row → Result (List Fate) FatesFault
fates_of choice rows = fates_from choice 0 rows

-- why nothing becomes of these records: memory ran out, there are too many, or a fix that is used is off the grid
abbrev pub IsFatesFault : Choice → List Row → FatesFault → Type 0
IsFatesFault choice rows fault = (fault ≡ OutOfMemory) ⊎ (((fault ≡ TooManyRecords) × (4_294_967_296 ≤ length rows)) ⊎ (fates_of choice rows ≡ Err fault))
