-- Metres in whole units of a grid.
use Rattle.std.specs.Prelude.{◌&&◌, if◌then◌else◌, false, Option, Some, None, ℤ, pos, negsuc}
use Rattle.std.specs.Int.{w64}
use Rattle.std.specs.Float.{Float, binary64, fin, float_one, floor, float_to_signed, two_to, minus_two_to}
use Rattle.std.specs.Float.Ieee.{add, mul, le, lt}
use Rattle.range_plane.specs.declared.scale.Scale.{Scale}
use Rattle.range_plane.specs.declared.scale.Scale.TheVariants.{Metre, Decimetre}

-- 10 = 5 * 2^1, and 1/2 = 1 * 2^-1
abbrev pub ten : Float
ten = fin false 5 (pos 1)

abbrev pub one_half : Float
one_half = fin false 1 (negsuc 0)

-- how many units a metre has
abbrev pub per_metre : Scale → Float
per_metre Metre = float_one
per_metre Decimetre = ten

-- floor(units * metres + 1/2), where product and sum are rounded to the nearest number of 53 digits
abbrev pub rounded : Scale → Float → Float
rounded unit metres = floor binary64 (add binary64 (mul binary64 (per_metre unit) metres) one_half)

-- a whole number from -2^63 to below 2^63; none where it is another, or no number
abbrev pub units_in : Float → Option ℤ
units_in whole = if le (minus_two_to 63) whole && lt whole (two_to 63) then Some (float_to_signed w64 whole) else None

-- metres in whole units
abbrev pub units_of : Scale → Float → Option ℤ
units_of unit metres = units_in (rounded unit metres)
