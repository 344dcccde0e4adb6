-- Decimals, as tables have coordinates in metres, and the whole units that they come to.
use Rattle.std.specs.Prelude.{ℕ, ◌+◌, ◌*◌, ◌^◌, ◌==◌, nat_lt, Bool, true, false, ◌&&◌, ◌||◌, if◌then◌else◌, codes, List, [], ◌∷◌, ◌++◌, length, take, drop, Option, Some, None, ℤ, pos, ◌+ℤ◌, ◌*ℤ◌, neg_ℤ}
use Rattle.std.specs.Int.{int_div_euclid}
use Rattle.std.specs.List.{position}
use Rattle.std.specs.Str.Parse.{digits_value}
use Rattle.range_numbers.specs.Number.{is_number}
use Rattle.range_plane.specs.declared.scale.Scale.{Scale}
use Rattle.range_plane.specs.declared.scale.Scale.TheVariants.{Metre, Decimetre}
use Rattle.split_numbers.specs.declared.decimal.Measure.{Measure}
use Rattle.split_numbers.specs.declared.decimal.Measure.TheVariants.{Trillionths, Units}

-- the parts of a text: whether a minus stands first, what stands before the first point, and what stands behind it
pub record Decimal : Type 0 where
  pub negative : Bool
  pub before : List ℕ
  pub behind : Option (List ℕ)

-- a number without its minus, cut where it has its first point
abbrev pub cut : Bool → List ℕ → Option ℕ → Decimal
cut negative number None = record { negative = negative; before = number; behind = None }
cut negative number (Some i) = record { negative = negative; before = take i number; behind = Some (drop (i + 1) number) }

-- whether a byte is a point before decimals, in whose place a comma may stand or not
abbrev pub is_point : Bool → ℕ → Bool
is_point commas b = b == 46 || (commas && b == 44)

-- the place of the first point
abbrev pub point_in : Bool → List ℕ → Option ℕ
point_in commas number = position (is_point commas) number

-- the parts of a text
abbrev pub parts_of : Bool → List ℕ → Decimal
parts_of commas [] = cut false [] None
parts_of commas (b ∷ bytes) = if b == 45 then cut true bytes (point_in commas bytes) else cut false (b ∷ bytes) (point_in commas (b ∷ bytes))

-- whether digits stand behind the point, where there is one
abbrev pub has_decimals : Option (List ℕ) → Bool
has_decimals None = true
has_decimals (Some digits) = is_number digits

-- whether the parts are those of a decimal: digits before the point, of which at most twelve come after leading zeros, so
-- that their value is below 10^12, and digits behind it
abbrev pub is_decimal : Decimal → Bool
is_decimal d = is_number d.before && nat_lt (digits_value 10 d.before) (10 ^ 12) && has_decimals d.behind

-- the digits behind the point
abbrev pub decimals : Option (List ℕ) → List ℕ
decimals None = []
decimals (Some digits) = digits

-- n, or -n where there is a minus
abbrev pub signed : Bool → ℕ → ℤ
signed false n = pos n
signed true n = neg_ℤ (pos n)

-- how many units a metre has
abbrev pub units_per_metre : Scale → ℕ
units_per_metre Metre = 1
units_per_metre Decimetre = 10

-- the units of n / 10^k metres, where a metre has so many: floor(units * n / 10^k + 1/2), so half a unit goes up
unfoldable pub rounded : ℕ → ℤ → ℕ → ℤ
rounded units n k = int_div_euclid (pos (2 * units) *ℤ n +ℤ pos (10 ^ k)) (pos (2 * 10 ^ k))

-- the units of digits before a point and of k digits behind it: as a fraction they are all digits together over 10^k
abbrev pub units_of : Scale → Bool → List ℕ → List ℕ → ℤ
units_of unit negative before behind = rounded (units_per_metre unit) (signed negative (digits_value 10 (before ++ behind))) (length behind)

-- the first twelve of digits, with zeros behind them where there are fewer
abbrev pub twelve_of : List ℕ → List ℕ
twelve_of digits = take 12 digits ++ drop (length digits) (codes "000000000000")

-- the trillionths of digits before a point and behind it, which moves by twelve places, rounded to whole ones; of 10^6 and more
-- they are not told apart
abbrev pub trillionths_of : Bool → List ℕ → List ℕ → ℤ
trillionths_of negative before behind =
    if nat_lt (digits_value 10 before) (10 ^ 6) then units_of Metre negative (before ++ twelve_of behind) (drop 12 behind) else signed negative (10 ^ 18)

-- the whole units, or trillionths, of digits before a point and behind it
abbrev pub measured_of : Measure → Bool → List ℕ → List ℕ → ℤ
measured_of (Units unit) negative before behind = units_of unit negative before behind
measured_of Trillionths negative before behind = trillionths_of negative before behind

-- the same of parts; none where they are no decimal
abbrev pub measured_in_parts : Measure → Decimal → Option ℤ
measured_in_parts measure d = if is_decimal d then Some (measured_of measure d.negative d.before (decimals d.behind)) else None

-- the same of a text
abbrev pub measured_in : Measure → Bool → List ℕ → Option ℤ
measured_in measure commas text = measured_in_parts measure (parts_of commas text)

-- the whole units of a text in metres; none where it is no decimal
unfoldable pub units_in : Scale → Bool → List ℕ → Option ℤ
units_in unit commas text = measured_in (Units unit) commas text

-- the whole trillionths of a text; none where it is no decimal
unfoldable pub trillionths_in : Bool → List ℕ → Option ℤ
trillionths_in commas text = measured_in Trillionths commas text
