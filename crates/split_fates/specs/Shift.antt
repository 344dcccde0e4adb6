-- By how much coordinates of a local grid are shifted.
use Rattle.std.specs.Prelude.{◌*◌, ℤ, pos, neg_ℤ, ◌*ℤ◌, ◌≤ℤ◌, int_lt, not, Bool, ◌&&◌, if◌then◌else◌, List, Option, Some, None, fold}
use Rattle.std.specs.Int.{int_div_euclid, int_max, int_min}
use Rattle.std.specs.List.{filter_map}
use Rattle.range_plane.specs.declared.scale.Scale.{Scale}
use Rattle.split_numbers.specs.Decimal.{units_per_metre}
use Rattle.split_reading.specs.declared.ledger.Row.{Row}
use Rattle.split_reading.specs.declared.told.Told.{Told}
use Rattle.split_reading.specs.declared.told.Told.TheVariants as told
use Rattle.split_reading.specs.Told.{is_taken}
use Rattle.split_fates.specs.declared.shift.Extent.{Extent}
use Rattle.split_fates.specs.Fates.{is_on_grid}

-- where a fix is, if it is used and no filter leaves it out
abbrev pub told_metres : Told → Option (ℤ × ℤ)
told_metres (told.LeftOut why) = None
told_metres (told.Fix fix) = if is_taken fix then fix.metres else None

-- where the fix of a record is, if it is one of these and has metres
abbrev pub used_metres : Row → Option (ℤ × ℤ)
used_metres row = told_metres row.told

-- the less of each of two pairs of coordinates, and the greater
abbrev pub least_of : ℤ × ℤ → ℤ × ℤ → ℤ × ℤ
least_of a b = (int_min a.0 b.0, int_min a.1 b.1)

abbrev pub most_of : ℤ × ℤ → ℤ × ℤ → ℤ × ℤ
most_of a b = (int_max a.0 b.0, int_max a.1 b.1)

-- the extent of fixes and of one more
abbrev pub widened : Option Extent → ℤ × ℤ → Option Extent
widened None at = Some (record { least = at; most = at })
widened (Some extent) at = Some (record { least = least_of extent.least at; most = most_of extent.most at })

-- the extent of these fixes
abbrev pub extent_of : List Row → Option Extent
extent_of rows = fold widened None (filter_map used_metres rows)

-- whether coordinates from the least to the greatest are on the grid once they are shifted by so many units
abbrev pub fits : Scale → ℤ → ℤ → ℤ → Bool
fits unit least most shift = is_on_grid unit shift least && is_on_grid unit shift most

-- the multiple of 1,000,000 m that brings the least coordinate to 0 or above and below 1,000,000 m
abbrev pub whole_shift : Scale → ℤ → ℤ
whole_shift unit least = neg_ℤ (int_div_euclid least (pos (1_000_000 * units_per_metre unit))) *ℤ pos 1_000_000

-- so many metres in units
abbrev pub in_units : Scale → ℤ → ℤ
in_units unit metres = metres *ℤ pos (units_per_metre unit)

-- that shift, if all are then on the grid
abbrev pub moved_shift : Scale → ℤ → ℤ → Option ℤ
moved_shift unit least most = if fits unit least most (in_units unit (whole_shift unit least)) then Some (whole_shift unit least) else None

-- whether a coordinate is no farther from 0 than one of twelve digits can be
abbrev pub is_near : ℤ → Bool
is_near coordinate = not (int_lt coordinate (neg_ℤ (pos 100_000_000_000_000))) && not (int_lt (pos 100_000_000_000_000) coordinate)

-- the same, and what bounds follow
abbrev pub IsNear : ℤ → Type 0
IsNear coordinate = (neg_ℤ (pos 100_000_000_000_000) ≤ℤ coordinate) × (coordinate ≤ℤ pos 100_000_000_000_000)

abbrev pub IsNearShift : ℤ → Type 0
IsNearShift shift = (neg_ℤ (pos 100_000_001_000_000) ≤ℤ shift) × (shift ≤ℤ pos 100_000_001_000_000)

-- by how many metres coordinates are shifted; none where they are wider than the grid, or farther than twelve digits go
abbrev pub shift_of : Scale → ℤ → ℤ → Option ℤ
shift_of unit least most =
    if fits unit least most (pos 0) then Some (pos 0) else if is_near least then moved_shift unit least most else None

-- by how many units the coordinates of one axis are shifted; by none where they are wider than the grid
abbrev pub shifted_units : Scale → Option ℤ → ℤ
shifted_units unit None = pos 0
shifted_units unit (Some metres) = in_units unit metres

unfoldable pub axis_shift : Scale → ℤ → ℤ → ℤ
axis_shift unit least most = shifted_units unit (shift_of unit least most)

-- by how many units the coordinates of a local grid are shifted, east and north
abbrev pub shift_by : Scale → Option Extent → ℤ × ℤ
shift_by unit None = (pos 0, pos 0)
shift_by unit (Some extent) = (axis_shift unit extent.least.0 extent.most.0, axis_shift unit extent.least.1 extent.most.1)

abbrev pub own_shift : Scale → List Row → ℤ × ℤ
own_shift unit rows = shift_by unit (extent_of rows)
