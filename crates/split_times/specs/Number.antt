-- Numbers as times.
use Rattle.std.specs.Prelude.{ℕ, ◌==◌, nat_le, nat_lt, min, Bool, true, ◌&&◌, if◌then◌else◌, List, [], ◌∷◌, take, drop, Option, Some, None, Result, Ok, Err}
use Rattle.std.specs.Char.{is_ascii_digit}
use Rattle.std.specs.List.{list_all}
use Rattle.std.specs.Str.Parse.{digits_value}
use Rattle.range_numbers.specs.Number.{is_number}
use Rattle.split_times.specs.Iso.{nanoseconds}
use Rattle.split_times.specs.Orders.{is_date}
use Rattle.split_times.specs.Words.{digits_ahead}
use Rattle.split_times.specs.declared.moment.Moment.{Moment}
use Rattle.split_times.specs.declared.number.NumberFault.{NumberFault}
use Rattle.split_times.specs.declared.number.NumberFault.TheVariants.{NotNumber, Negative, DaysOfExcel, JulianDays, DateWithoutHyphens, Milliseconds, NotSecond}

-- whether nothing stands behind whole seconds, or a point and any digits, or none
abbrev pub are_any_decimals : List ℕ → Bool
are_any_decimals [] = true
are_any_decimals (b ∷ digits) = b == 46 && list_all is_ascii_digit digits

-- the whole nanoseconds of digits behind a point
abbrev pub floor_nanoseconds : List ℕ → ℕ
floor_nanoseconds digits = nanoseconds (take 9 digits)

-- the seconds of whole digits and of what stands behind them
abbrev pub second_by : List ℕ → List ℕ → Option Moment
second_by whole decimals =
    if is_number whole && are_any_decimals decimals
    then Some (record { second = min 100_000_000_000_000 (digits_value 10 whole); nanosecond = floor_nanoseconds (drop 1 decimals) }) else None

-- the seconds of a number
abbrev pub seconds_in : List ℕ → Option Moment
seconds_in text = second_by (take (digits_ahead text) text) (drop (digits_ahead text) text)

-- what a number that is no second since 1970 looks like
abbrev pub looks_like : Moment → NumberFault
looks_like moment =
    if nat_le 15_000 moment.second && nat_lt moment.second 80_000 then DaysOfExcel
    else if nat_le 2_400_000 moment.second && nat_lt moment.second 2_500_000 then JulianDays
    else if moment.nanosecond == 0 && is_date moment.second then DateWithoutHyphens
    else if nat_le 100_000_000_000 moment.second && nat_lt moment.second 100_000_000_000_000 then Milliseconds
    else NotSecond

-- the moment of seconds since 1970, if they are of 1990 to 2286
abbrev pub moment_by : Option Moment → Result Moment NumberFault
moment_by None = Err NotNumber
moment_by (Some moment) = if nat_le 631_152_000 moment.second && nat_lt moment.second 10_000_000_000 then Ok moment else Err (looks_like moment)

-- the moment of a number without a sign
abbrev pub unsigned_moment : List ℕ → Result Moment NumberFault
unsigned_moment text = moment_by (seconds_in text)

-- why a text behind a minus is no moment
abbrev pub negative : Option Moment → NumberFault
negative None = NotNumber
negative (Some moment) = Negative

-- the moment of a number of seconds since 1970
abbrev pub number_moment : List ℕ → Result Moment NumberFault
number_moment [] = unsigned_moment []
number_moment (b ∷ number) = if b == 45 then Err (negative (seconds_in number)) else unsigned_moment (b ∷ number)
