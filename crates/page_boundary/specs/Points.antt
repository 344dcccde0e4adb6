-- What a line of a boundary says.
use Rattle.std.specs.Prelude.{ℕ, ℤ, pos, neg_ℤ, ◌==◌, ◌+◌, ◌*◌, ◌&&◌, not, nat_lt, if◌then◌else◌, codes, List, length, slice_index, Option, Some, None, option_map}
use Rattle.std.specs.Str.Parse.{digits_value}
use Rattle.range_numbers.specs.Number.{is_number}
use Rattle.page_map.specs.declared.land.Ground.{Ground}
use Rattle.page_report.specs.Fields.{◌>>=◌, behind, cut}
use Rattle.page_boundary.specs.declared.numbers.TheConstants.{MOST_DIGITS, PLACES}

-- a place by its easting and its northing in millimetres, and the number of a ring with one
abbrev pub Place : Type 0
Place = ℤ × ℤ

abbrev pub RingPlace : Type 0
RingPlace = ℕ × Place

abbrev pub place_of : Ground → Place
place_of at = (at.east, at.north)

-- the value of digits, of which there are at most so many
abbrev pub digits_in : ℕ → List ℕ → Option ℕ
digits_in most text = if is_number text && not (nat_lt most (length text)) then Some (digits_value 10 text) else None

-- the number of a ring, before which no zero stands
abbrev pub ring_in : List ℕ → Option ℕ
ring_in text = if slice_index text 0 == 48 then None else digits_in MOST_DIGITS text

-- a decimal with three places, in thousandths
unfoldable pub thousandths_in : List ℕ → Option ℕ
thousandths_in text = do
  sides ← cut 46 text
  whole ← digits_in MOST_DIGITS sides.0
  places ← (if length sides.1 == PLACES then digits_in PLACES sides.1 else None)
  Some (1000 * whole + places)

-- a coordinate in metres, before which a minus may stand, in millimetres
abbrev pub signed : List ℕ → Option (List ℕ) → Option ℤ
signed text None = option_map (λ number. pos number) (thousandths_in text)
signed text (Some rest) = option_map (λ number. neg_ℤ (pos number)) (thousandths_in rest)

abbrev pub coordinate_in : List ℕ → Option ℤ
coordinate_in text = signed text (behind (codes "-") text)

-- the point of a line: the number of its ring, its easting and its northing
unfoldable pub point_in : List ℕ → Option RingPlace
point_in line = do
  own ← cut 44 line
  sides ← cut 44 own.1
  ring ← ring_in own.0
  easting ← coordinate_in sides.0
  northing ← coordinate_in sides.1
  Some (ring, (easting, northing))
