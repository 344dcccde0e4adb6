-- The widest empty strip between coordinates.
use Rattle.std.specs.Prelude.{ℕ, ◌*◌, ◌/◌, ◌-◌, nat_lt, nat_le, length, ℤ, ◌-ℤ◌, int_le, unsigned_abs, Bool, ◌&&◌, if◌then◌else◌, List, Option, Some, None, fold, filter, slice_get}
use Rattle.range_plane.specs.declared.scale.Scale.{Scale}
use Rattle.split_numbers.specs.Decimal.{units_per_metre}
use Rattle.split_doubts.specs.declared.gap.Side.{Side}
use Rattle.split_doubts.specs.declared.gap.Strip.{Strip}
use Rattle.split_doubts.specs.declared.gap.Walk.{Walk}

-- how wide a strip is
abbrev pub gap : Strip → ℕ
gap strip = unsigned_abs (strip.high -ℤ strip.low)

-- the wider of two strips, of equal ones the first
abbrev pub wider : Option Strip → Strip → Option Strip
wider None strip = Some strip
wider (Some own) strip = if nat_lt (gap own) (gap strip) then Some strip else Some own

-- the widest strip with that from the last coordinate to the next
abbrev pub widest_with : Option Strip → Option ℤ → ℤ → Option Strip
widest_with widest None coordinate = widest
widest_with widest (Some last) coordinate = wider widest (record { low = last; high = coordinate })

-- one coordinate more
abbrev pub with_next : Walk → ℤ → Walk
with_next walk coordinate = record { last = Some coordinate; widest = widest_with walk.widest walk.last coordinate }

-- the widest strip between neighbours of ascending coordinates
abbrev pub widest : List ℤ → Option Strip
widest sorted = (fold with_next (record { last = None; widest = None }) sorted).widest

-- how far it is from the least of ascending coordinates to the greatest
abbrev pub between : Option ℤ → Option ℤ → ℕ
between (Some least) (Some most) = unsigned_abs (most -ℤ least)
between (Some least) None = 0
between None most = 0

abbrev pub extent : List ℤ → ℕ
extent sorted = between (slice_get sorted 0) (slice_get sorted (length sorted - 1))

-- whether a strip is wider than half of the extent, and than a kilometre
abbrev pub is_wide : Scale → ℕ → Strip → Bool
is_wide unit extent strip = nat_lt extent (2 * gap strip) && nat_lt (1000 * units_per_metre unit) (gap strip)

-- the strip that is so wide, if one is
abbrev pub wide_one : Scale → ℕ → Option Strip → Option Strip
wide_one unit extent None = None
wide_one unit extent (Some strip) = if is_wide unit extent strip then Some strip else None

abbrev pub wide_strip : Scale → List ℤ → Option Strip
wide_strip unit sorted = wide_one unit (extent sorted) (widest sorted)

-- how many coordinates lie below a strip
abbrev pub below : List ℤ → Strip → ℕ
below sorted strip = length (filter (λ coordinate. int_le coordinate strip.low) sorted)

-- the smaller side of a strip, of equal ones the lower
abbrev pub smaller_side : List ℤ → Strip → Side
smaller_side sorted strip = record { strip = strip; is_lower = nat_le (below sorted strip) (length sorted / 2) }

-- the side that is far from the other
abbrev pub side_of : List ℤ → Option Strip → Option Side
side_of sorted None = None
side_of sorted (Some strip) = Some (smaller_side sorted strip)

abbrev pub far_side : Scale → List ℤ → Option Side
far_side unit sorted = side_of sorted (wide_strip unit sorted)
