-- Where a record is.
use Rattle.std.specs.Prelude.{ℤ, Bool, false, ◌&&◌, if◌then◌else◌, Option, Some, None, Result, Ok}
use Rattle.split_titles.specs.declared.columns.Pair.{Pair}
use Rattle.split_reading.specs.declared.fault.CellFault.{CellFault}
use Rattle.split_reading.specs.declared.place.Place.{Place}
use Rattle.split_reading.specs.declared.place.Place.TheVariants.{At, Zero, Missing}
use Rattle.split_reading.specs.declared.rules.Rules.{Rules}
use Rattle.split_reading.specs.Cells.{◌>>=◌, Record, cell, is_zero, number_in, trillionths_in}

-- two numbers, where both are there
abbrev pub both : Option ℤ → Option ℤ → Option (ℤ × ℤ)
both (Some first) (Some second) = Some (first, second)
both (Some first) None = None
both None second = None

-- easting and northing in whole units, where both are there
abbrev pub metres_in : Rules → Option Pair → Record → Result (Option (ℤ × ℤ)) CellFault
metres_in rules None fields = Ok None
metres_in rules (Some pair) fields = do
  easting ← number_in rules pair.first (cell rules fields pair.first)
  northing ← number_in rules pair.second (cell rules fields pair.second)
  Ok (both easting northing)

-- longitude and latitude in trillionths of a degree, where both are there
abbrev pub degrees_in : Rules → Option Pair → Record → Result (Option (ℤ × ℤ)) CellFault
degrees_in rules None fields = Ok None
degrees_in rules (Some pair) fields = do
  longitude ← trillionths_in rules pair.first (cell rules fields pair.first)
  latitude ← trillionths_in rules pair.second (cell rules fields pair.second)
  Ok (both longitude latitude)

-- whether two coordinates are both 0
abbrev pub are_both_zero : Rules → Pair → Record → Bool
are_both_zero rules pair fields = is_zero (cell rules fields pair.first) && is_zero (cell rules fields pair.second)

-- whether a record has two coordinates that are both 0
abbrev pub are_zero : Rules → Option Pair → Record → Bool
are_zero rules None fields = false
are_zero rules (Some pair) fields = are_both_zero rules pair fields

-- a place by some coordinates
abbrev pub at : Option (ℤ × ℤ) → Option (ℤ × ℤ) → Place
at metres degrees = At (record { metres = metres; degrees = degrees })

-- the place of a record that has no metres
abbrev pub place_by_degrees : Option (ℤ × ℤ) → Place
place_by_degrees (Some degrees) = at None (Some degrees)
place_by_degrees None = Missing

-- the place of a record by its metres and its degrees, and by whether the metres are 0 and the degrees are
abbrev pub place_by : Option (ℤ × ℤ) → Option (ℤ × ℤ) → Bool → Bool → Place
place_by (Some metres) degrees are_metres_zero are_degrees_zero = if are_degrees_zero && are_metres_zero then Zero else at (Some metres) degrees
place_by None degrees are_metres_zero are_degrees_zero = if are_degrees_zero then Zero else place_by_degrees degrees

-- the place of a record
abbrev pub place_in : Rules → Record → Result Place CellFault
place_in rules fields = do
  metres ← metres_in rules rules.metres fields
  degrees ← degrees_in rules rules.degrees fields
  Ok (place_by metres degrees (are_zero rules rules.metres fields) (are_zero rules rules.degrees fields))
