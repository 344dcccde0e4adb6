-- The values of the options of the two filters.
use Rattle.std.specs.Prelude.{ℕ, ◌+◌, ◌*◌, ◌-◌, ◌/◌, ◌%◌, ◌^◌, ◌==◌, nat_lt, ◌&&◌, not, if◌then◌else◌, List, [], length, take, drop, codes, Option, Some, None, Result, Ok, Err, false}
use Rattle.std.specs.Char.{is_ascii_digit}
use Rattle.std.specs.List.{list_all, position}
use Rattle.std.specs.Str.{bytes_eq}
use Rattle.std.specs.Str.Parse.{digits_value}
use Rattle.range_numbers.specs.Number.{is_number}
use Rattle.split_numbers.specs.Decimal.{point_in}
use Rattle.split_pace.specs.declared.speed.Speed.{Speed}
use Rattle.split_pace.specs.declared.values.TheConstants.{DECIMALS, LENGTH_LIMIT, MILLION, SPEED_LIMIT, WHOLE_LIMIT}
use Rattle.split_pace.specs.declared.values.ValueFault.{ValueFault}
use Rattle.split_pace.specs.declared.values.ValueFault.TheVariants.{LessThanASecond, MoreThanSixDecimals, NoUnit, NotNumber, NotWholeSeconds, TooGreat}

-- the millionths of the digits behind a point, of which there may be none
abbrev pub decimal_millionths : List ℕ → ℕ
decimal_millionths digits = digits_value 10 digits * 10 ^ (DECIMALS - length digits)

-- the millionths of digits before a point and of those behind it
abbrev pub millionths_in : List ℕ → List ℕ → Result ℕ ValueFault
millionths_in before behind =
    if not (is_number before && list_all is_ascii_digit behind)
    then Err NotNumber
    else (if nat_lt DECIMALS (length behind)
    then Err MoreThanSixDecimals
    else (if nat_lt WHOLE_LIMIT (digits_value 10 before) then Err TooGreat else Ok (digits_value 10 before * MILLION + decimal_millionths behind)))

-- the millionths of a number that has its point at this place, or none
abbrev pub millionths_at : List ℕ → Option ℕ → Result ℕ ValueFault
millionths_at text None = millionths_in text []
millionths_at text (Some point) = if length (drop (point + 1) text) == 0 then Err NotNumber else millionths_in (take point text) (drop (point + 1) text)

-- the millionths of a number, with a point or without
abbrev pub millionths_of : List ℕ → Result ℕ ValueFault
millionths_of text = millionths_at text (point_in false text)

-- the speed of so many millionths
abbrev pub speed_in : Result ℕ ValueFault → Result Speed ValueFault
speed_in (Err fault) = Err fault
speed_in (Ok millionths) = if nat_lt SPEED_LIMIT millionths then Err TooGreat else Ok (record { millionths = millionths })

-- the speed that a text says
abbrev pub speed_of : List ℕ → Result Speed ValueFault
speed_of text = speed_in (millionths_of text)

-- how many seconds a unit of time has
abbrev pub unit_seconds : List ℕ → Option ℕ
unit_seconds unit =
    if bytes_eq unit (codes "h") then Some 3600 else (if bytes_eq unit (codes "min") then Some 60 else (if bytes_eq unit (codes "s") then Some 1 else None))

-- the whole seconds of so many millionths of a unit
abbrev pub seconds_of : ℕ → ℕ → Result ℕ ValueFault
seconds_of millionths unit =
    if nat_lt (millionths * unit) MILLION
    then Err LessThanASecond
    else (if nat_lt (millionths * unit) ((LENGTH_LIMIT + 1) * MILLION)
    then (if millionths * unit % MILLION == 0 then Ok (millionths * unit / MILLION) else Err NotWholeSeconds)
    else Err TooGreat)

-- the seconds of a number in a unit, if it has one
abbrev pub length_in : Result ℕ ValueFault → Option ℕ → Result ℕ ValueFault
length_in number None = Err NoUnit
length_in (Err fault) (Some unit) = Err fault
length_in (Ok millionths) (Some unit) = seconds_of millionths unit

-- the place of the unit that stands behind a number
abbrev pub unit_in : List ℕ → Option ℕ
unit_in text = position (λ byte. not (is_ascii_digit byte) && not (byte == 46)) text

-- the seconds of a text whose unit is at this place, if it has one
abbrev pub length_at : List ℕ → Option ℕ → Result ℕ ValueFault
length_at text None = Err NoUnit
length_at text (Some place) = length_in (millionths_of (take place text)) (unit_seconds (drop place text))

-- the length that a text says, in seconds
abbrev pub length_of : List ℕ → Result ℕ ValueFault
length_of text = length_at text (unit_in text)
