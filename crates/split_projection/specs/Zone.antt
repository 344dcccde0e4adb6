-- Zones of UTM.
use Rattle.std.specs.Prelude.{ℕ, ◌+◌, ◌*◌, ◌^◌, ℤ, pos, ◌+ℤ◌, unsigned_abs}
use Rattle.std.specs.Int.{int_div_euclid, int_rem_euclid}

-- so many degrees in trillionths of a degree
abbrev pub degrees : ℕ → ℤ
degrees n = pos (n * 10 ^ 12)

-- the number of the zone of a longitude in trillionths of a degree: floor((longitude + 180 degrees) / 6 degrees) mod 60 + 1
abbrev pub zone_number : ℤ → ℕ
zone_number longitude = unsigned_abs (int_rem_euclid (int_div_euclid (longitude +ℤ degrees 180) (degrees 6)) (pos 60)) + 1
