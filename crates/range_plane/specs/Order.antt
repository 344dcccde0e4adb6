-- The order of points by easting, then by northing, as the order of one number.
use Rattle.std.specs.Prelude.{ℕ, ◌*◌, ℤ, pos, ◌+ℤ◌, ◌*ℤ◌}
use Rattle.range_plane.specs.Plane.{Position, coordinate_limit}

-- what one step of easting counts for in a rank: more than any northing
abbrev pub rank_base : ℕ
rank_base = 2 * coordinate_limit

-- points in rising order of this number stand in rising order of easting, then northing
unfoldable pub rank : Position → ℤ
rank p = p.e *ℤ pos rank_base +ℤ p.n
