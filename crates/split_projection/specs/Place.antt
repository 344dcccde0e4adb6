-- Places in trillionths of a degree.
use Rattle.std.specs.Prelude.{ℕ, ◌*◌, ◌^◌, ◌≤◌, ℤ, pos, neg_ℤ, ◌+ℤ◌, ◌-ℤ◌, ◌≤ℤ◌}
use Rattle.std.specs.Int.{int_rem_euclid}
use Rattle.split_projection.specs.Zone.{degrees}
use Rattle.split_projection.specs.declared.degrees.Degrees.{Degrees}

-- a number that is at most n, with a minus or without one
abbrev pub IsWithin : ℕ → ℤ → Type 0
IsWithin n z = (neg_ℤ (pos n) ≤ℤ z) × (z ≤ℤ pos n)

-- a latitude up to 10^-12 radians past a pole, and a longitude up to ten radians
abbrev pub IsLatitude : ℤ → Type 0
IsLatitude = IsWithin 90000000000057

abbrev pub IsLongitude : ℤ → Type 0
IsLongitude = IsWithin 572957795130823

-- a central meridian: at most 177 degrees east or west
abbrev pub IsMeridian : ℤ → Type 0
IsMeridian = IsWithin (177 * 10 ^ 12)

-- a place on the earth
abbrev pub IsPlace : Degrees → Type 0
IsPlace at = IsLatitude at.latitude × IsLongitude at.longitude

-- the number of a zone
abbrev pub IsZone : ℕ → Type 0
IsZone number = (1 ≤ number) × (number ≤ 60)

-- the longitude of a zone's central meridian
abbrev pub meridian : ℕ → ℤ
meridian number = degrees (number * 6) -ℤ degrees 183

-- an angle less whole turns, from half a turn west to below half a turn east
abbrev pub wrapped : ℤ → ℤ
wrapped angle = int_rem_euclid (angle +ℤ degrees 180) (degrees 360) -ℤ degrees 180
