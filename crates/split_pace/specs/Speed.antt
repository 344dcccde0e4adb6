-- Whether an animal comes from one fix to another.
use Rattle.std.specs.Prelude.{ℕ, ◌+◌, ◌*◌, ◌-◌, nat_le, Bool, true, List, [], ◌∷◌, Option, Some, None, ◌-ℤ◌, unsigned_abs}
use Rattle.range_plane.specs.declared.scale.Scale.{Scale}
use Rattle.split_numbers.specs.Decimal.{units_per_metre}
use Rattle.split_tracks.specs.declared.fate.Entry.{Entry}
use Rattle.split_pace.specs.declared.speed.Speed.{Speed}

-- the square of a number
abbrev pub square : ℕ → ℕ
square n = n * n

-- how far an animal comes in so many seconds, in millionths of a unit
abbrev pub reach_in : Scale → Speed → ℕ → ℕ
reach_in unit speed seconds = speed.millionths * units_per_metre unit * seconds

-- the same between two entries, by whole seconds; no second passes where the second one is not later
abbrev pub reach_of : Scale → Speed → Entry → Entry → ℕ
reach_of unit speed before entry = reach_in unit speed (entry.moment.second - before.moment.second)

-- whether so many millionths of a unit are as far as a fix that is so many units to the east or west, and so many to the
-- north or south: the square of the distance is at most that of the reach
abbrev pub is_within : ℕ → ℕ → ℕ → Bool
is_within reach easting northing = nat_le (square 1_000_000 * (square easting + square northing)) (square reach)

-- whether an animal of this speed comes from one entry to another
abbrev pub is_reached : Scale → Speed → Entry → Entry → Bool
is_reached unit speed before entry =
    is_within (reach_of unit speed before entry) (unsigned_abs (entry.easting -ℤ before.easting)) (unsigned_abs (entry.northing -ℤ before.northing))

-- the same from the last that is kept, if one is
abbrev pub is_reached_from : Scale → Speed → Option Entry → Entry → Bool
is_reached_from unit speed None entry = true
is_reached_from unit speed (Some last) entry = is_reached unit speed last entry

-- the first of some entries, if there is one
abbrev pub first_of : List Entry → Option Entry
first_of [] = None
first_of (entry ∷ others) = Some entry

-- the filter of the greatest speed: an entry is kept that an animal comes to from the last that is kept, and so is the first
abbrev pub is_slow_enough : Scale → Speed → List Entry → Entry → Bool
is_slow_enough unit speed kept entry = is_reached_from unit speed (first_of kept) entry
