-- Words on lanes of signed numbers.
use Rattle.std.specs.Prelude.{◌≡◌, ℕ, ◌≤◌, ℤ, pos, List, length, int_le, Bool, ◌&&◌, unsigned_abs, FitsSigned}
use Rattle.std.specs.Int.{w64}
use Rattle.std.specs.Simd.Lanes.{Each1}
use Rattle.range_plane.specs.Plane.{IsCoordinate, Position}
use Rattle.range_lanes.specs.declared.lanes.TheConstants.{LANE_COUNT}

-- |x| is at most m
abbrev pub IsBounded : ℕ → ℤ → Type 0
IsBounded m x = unsigned_abs x ≤ m

-- eight numbers of 64 bits
abbrev pub AreLanes : List ℤ → Type 0
AreLanes xs = (length xs ≡ LANE_COUNT) × Each1 (FitsSigned w64) xs

-- eight points, by their eastings and their northings
abbrev pub AreEight : List ℤ → List ℤ → Type 0
AreEight es ns = (length es ≡ LANE_COUNT) × (length ns ≡ LANE_COUNT) × Each1 IsCoordinate es × Each1 IsCoordinate ns

abbrev pub is_not_negative : ℤ → Bool
is_not_negative x = int_le (pos 0) x

-- q lies in the box from its southwestern corner to its northeastern one, or on its boundary, as a test
abbrev pub is_in_box : Position → Position → Position → Bool
is_in_box low high q = int_le low.e q.e && int_le low.n q.n && int_le q.e high.e && int_le q.n high.n
