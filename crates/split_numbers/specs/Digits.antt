-- Digits behind a point, by their value.
use Rattle.std.specs.Prelude.{ℕ, ◌+◌, ◌*◌, ◌^◌, nat_lt, Bool, List, length, if◌then◌else◌, ℤ}
use Rattle.std.specs.Str.Parse.{digits_value}
use Rattle.std.specs.declared.cmp.Ordering.{Ordering}
use Rattle.std.specs.declared.cmp.Ordering.TheVariants.{Less, Equal, Greater}
use Rattle.range_plane.specs.declared.scale.Scale.{Scale}
use Rattle.split_numbers.specs.Decimal.{rounded, signed, units_per_metre}

-- how n / m compares with one half
abbrev pub half_at : ℕ → ℕ → Ordering
half_at n m = if nat_lt (2 * n) m then Less else if nat_lt m (2 * n) then Greater else Equal

-- how the digits behind a point compare with one half
unfoldable pub against_half : List ℕ → Ordering
against_half digits = half_at (digits_value 10 digits) (10 ^ length digits)

-- the units of whole metres and of digits behind a point
unfoldable pub units_with : Scale → Bool → ℕ → List ℕ → ℤ
units_with unit negative metres digits =
    rounded (units_per_metre unit) (signed negative (metres * 10 ^ length digits + digits_value 10 digits)) (length digits)
