-- The zone of a line of a record.
use Rattle.std.specs.Prelude.{ℕ, Bool, true, false, ◌==◌, ◌-◌, if◌then◌else◌, codes, List, length, take, slice_index, Option, Some, None, option_map}
use Rattle.std.specs.Str.{bytes_eq}
use Rattle.page_report.specs.Fields.{◌>>=◌, number_up_to}
use Rattle.page_record.specs.declared.zone.Zone.{Zone}

-- whether a letter is that of the south; none where it is of neither hemisphere
abbrev pub is_south_in : ℕ → Option Bool
is_south_in letter = if letter == 78 then Some false else (if letter == 83 then Some true else None)

-- the last byte of a text, and what stands before it
abbrev pub last_byte : List ℕ → ℕ
last_byte text = slice_index text (length text - 1)

abbrev pub before_last_byte : List ℕ → List ℕ
before_last_byte text = take (length text - 1) text

-- a zone, as `33N`: its number from 1 to 60 and the letter of its hemisphere
unfoldable pub zone_in : List ℕ → Option Zone
zone_in text = do
  is_south ← is_south_in (last_byte text)
  number ← number_up_to 60 (before_last_byte text)
  if number == 0 then None else Some (record { number = number; is_south = is_south })

-- the zone of a line, which may be none
unfoldable pub zone_of : List ℕ → Option (Option Zone)
zone_of text = if bytes_eq text (codes "none") then Some None else option_map (λ zone. Some zone) (zone_in text)
