-- UTM zones, as records name them.
use Rattle.std.specs.Prelude.{ℤ, pos, int_lt, ℕ, ◌-◌, Bool, true, false, ◌==◌, ◌&&◌, ◌||◌, not, nat_le, nat_lt, if◌then◌else◌, List, length, take, slice_index, Option, Some, None, Result, Ok, Err}
use Rattle.std.specs.Str.Parse.{digits_value}
use Rattle.range_numbers.specs.Number.{is_number}
use Rattle.split_projection.specs.Zone.{zone_number}
use Rattle.split_reading.specs.declared.fault.CellFault.{CellFault}
use Rattle.split_reading.specs.declared.fault.CellFault.TheVariants.{NotZone}
use Rattle.split_reading.specs.declared.rules.Rules.{Rules}
use Rattle.split_reading.specs.declared.zone.Zone.{Zone}
use Rattle.split_reading.specs.Cells.{Record, cell, is_missing}

-- whether a letter is that of the south; none where it is of neither hemisphere
abbrev pub is_south_in : ℕ → Option Bool
is_south_in letter = if letter == 78 || letter == 110 then Some false else if letter == 83 || letter == 115 then Some true else None

-- whether the band of a letter is in the south, from C to M, or in the north, from N to X
abbrev pub is_south_in_band : ℕ → Option Bool
is_south_in_band letter = if nat_le 67 letter && nat_le letter 77 then Some true else if nat_le 78 letter && nat_le letter 88 then Some false else None

-- the last byte of a text, and what stands before it
abbrev pub last_byte : List ℕ → ℕ
last_byte text = slice_index text (length text - 1)

abbrev pub before_last_byte : List ℕ → List ℕ
before_last_byte text = take (length text - 1) text

-- a number before its hemisphere, from which one blank may part it
abbrev pub number_text : List ℕ → List ℕ
number_text text = if nat_lt 0 (length text) && last_byte text == 32 then before_last_byte text else text

-- whether digits are one or two, before two of which a 0 may stand
abbrev pub has_zone_form : List ℕ → Bool
has_zone_form digits = nat_lt (length digits) 3 || (length digits == 3 && slice_index digits 0 == 48 && not (slice_index digits 1 == 48))

-- the number of a zone, from 1 to 60
abbrev pub number_of : List ℕ → Option ℕ
number_of digits =
    if is_number digits && has_zone_form digits && nat_le 1 (digits_value 10 digits) && nat_le (digits_value 10 digits) 60 then Some (digits_value 10 digits) else None

-- a zone by its number and its hemisphere
abbrev pub zone_with : Option ℕ → Option Bool → Option Zone
zone_with (Some number) (Some is_south) = Some (record { number = number; is_south = is_south })
zone_with (Some number) None = None
zone_with None is_south = None

-- the zone of a text
abbrev pub zone_of : List ℕ → Option Zone
zone_of text = if length text == 0 then None else zone_with (number_of (number_text (before_last_byte text))) (is_south_in (last_byte text))

-- the zone of a text with the letter of a band
abbrev pub zone_of_band : List ℕ → Option Zone
zone_of_band text = if length text == 0 then None else zone_with (number_of (number_text (before_last_byte text))) (is_south_in_band (last_byte text))

-- a zone that was found, or the fault that there is none
abbrev pub found_zone : ℕ → Option Zone → Result (Option Zone) CellFault
found_zone column (Some zone) = Ok (Some zone)
found_zone column None = Err (NotZone column)

-- the zone of a text in this column, if there is one
abbrev pub zone_in_text : ℕ → List ℕ → Result (Option Zone) CellFault
zone_in_text column text = if is_missing text then Ok None else found_zone column (zone_of text)

-- the zone of a longitude and a latitude: of the south where the latitude is below 0
abbrev pub zone_at : ℤ → ℤ → Zone
zone_at longitude latitude = record { number = zone_number longitude; is_south = int_lt latitude (pos 0) }

-- the zone of a fix: the one that its record names, or else that of its longitude
abbrev pub zone_or_at : Option Zone → Option (ℤ × ℤ) → Option Zone
zone_or_at (Some zone) degrees = Some zone
zone_or_at None (Some degrees) = Some (zone_at degrees.0 degrees.1)
zone_or_at None None = None

-- the zone that a record names in this column, if it names one
abbrev pub zone_in_column : Rules → Option ℕ → Record → Result (Option Zone) CellFault
zone_in_column rules None fields = Ok None
zone_in_column rules (Some column) fields = zone_in_text column (cell rules fields column)

-- the zone that a record names, if it names one
abbrev pub zone_in : Rules → Record → Result (Option Zone) CellFault
zone_in rules fields = zone_in_column rules rules.zone fields
