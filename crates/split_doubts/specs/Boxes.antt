-- The box of the used fixes of tracks.
use Rattle.std.specs.Prelude.{ℕ, ◌*◌, nat_lt, nat_le, ℤ, ◌-ℤ◌, unsigned_abs, Bool, ◌&&◌, ◌||◌, if◌then◌else◌, List, Option, Some, None, fold}
use Rattle.range_plane.specs.declared.scale.Scale.{Scale}
use Rattle.split_fates.specs.declared.shift.Extent.{Extent}
use Rattle.split_fates.specs.Shift.{widened}
use Rattle.split_numbers.specs.Decimal.{units_per_metre}
use Rattle.split_tracks.specs.declared.fate.Entry.{Entry}
use Rattle.split_doubts.specs.declared.axis.Axis.{Axis}
use Rattle.split_doubts.specs.declared.axis.Axis.TheVariants.{Easting, Northing}

-- the extent of fixes, and of one more if it is used
abbrev pub with_entry : Option Extent → Entry → Option Extent
with_entry extent entry = if entry.is_used then widened extent (entry.easting, entry.northing) else extent

-- the same of a track
abbrev pub with_track : Option Extent → List Entry → Option Extent
with_track extent track = fold with_entry extent track

-- the extent of the used fixes of tracks
abbrev pub extent_of_tracks : List (List Entry) → Option Extent
extent_of_tracks tracks = fold with_track None tracks

-- the ends of an extent along an axis
abbrev pub ends : Axis → Extent → ℤ × ℤ
ends Easting extent = (extent.least.0, extent.most.0)
ends Northing extent = (extent.least.1, extent.most.1)

-- how wide it is there
abbrev pub span : Axis → Extent → ℕ
span axis extent = unsigned_abs ((ends axis extent).1 -ℤ (ends axis extent).0)

-- whether at least 10 fixes lie within a box of less than 20 by 20 metres
abbrev pub is_small_box : ℕ → Extent → Scale → Bool
is_small_box fixes extent unit =
    nat_le 10 fixes && nat_lt (span Easting extent) (20 * units_per_metre unit) && nat_lt (span Northing extent) (20 * units_per_metre unit)

-- whether coordinates lie farther than 100,000 km from 0 or from one another
abbrev pub is_great : Axis → Extent → Scale → Bool
is_great axis extent unit =
    nat_lt (100_000_000 * units_per_metre unit) (unsigned_abs (ends axis extent).0)
    || nat_lt (100_000_000 * units_per_metre unit) (unsigned_abs (ends axis extent).1)
    || nat_lt (100_000_000 * units_per_metre unit) (span axis extent)

-- the first axis along which they do
abbrev pub great_axis : Extent → Scale → Option Axis
great_axis extent unit = if is_great Easting extent unit then Some Easting else if is_great Northing extent unit then Some Northing else None
