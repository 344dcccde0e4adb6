-- Sums of coordinates.
use Rattle.std.specs.Prelude.{ℕ, ◌*◌, ℤ, pos, ◌+ℤ◌, ◌≤ℤ◌, List, fold}
use Rattle.range_plane.specs.Plane.{coordinate_limit}

-- the sum of some numbers
abbrev pub total : List ℤ → ℤ
total xs = fold ◌+ℤ◌ (pos 0) xs

-- as large as a sum of n coordinates may be
abbrev pub IsSumOf : ℕ → ℤ → Type 0
IsSumOf n x = (pos 0 ≤ℤ x) × (x ≤ℤ pos (n * coordinate_limit))
