-- Keys: a point's distance and its index as one number, by which points are ranked.
use Rattle.std.specs.Prelude.{ℕ, ◌+◌, ◌*◌, ◌/◌, ◌%◌, ◌<◌, ◌≤◌, ◌≡◌, ◌++◌, All, List, length, map, take, drop, Option, None, Some}
use Rattle.std.specs.List.Sorted.{IsPermutation}
use Rattle.range_plane.specs.Edges.{at}
use Rattle.range_plane.specs.Fix.{fix_limit}
use Rattle.range_plane.specs.Plane.{Position, coordinate_limit}
use Rattle.range_stats.specs.Percent.{kept_count}

-- no scaled distance of at most so many points is greater
abbrev pub distance_limit : ℕ
distance_limit = 2 * (fix_limit * coordinate_limit * (fix_limit * coordinate_limit))

-- keys rise by distance, and then by index
abbrev pub key_of : ℕ × ℕ → ℕ
key_of entry = entry.0 * fix_limit + entry.1

-- the index in a key
abbrev pub index_in : ℕ → ℕ
index_in key = key % fix_limit

-- the distance and the index in a key
abbrev pub entry_in : ℕ → ℕ × ℕ
entry_in key = (key / fix_limit, index_in key)

-- the points at indices
abbrev pub points_at : List Position → List ℕ → List Position
points_at points indices = map (at points) indices

-- each index is that of a point
abbrev pub AreIndices : List Position → List ℕ → Type 0
AreIndices points indices = All (λ index. index < length points) indices

-- none of the first k keys is greater than one after them
abbrev pub IsCutAt : ℕ → List ℕ → Type 0
IsCutAt k keys = All (λ x. All (λ y. x ≤ y) (drop k keys)) (take k keys)

-- the most that one of the levels keeps of n points, of those that keep fewer than the limit
abbrev pub IsGreatestCut : List ℕ → ℕ → ℕ → Option ℕ → Type 0
IsGreatestCut levels n limit None = All (λ level. limit ≤ kept_count level n) levels
IsGreatestCut levels n limit (Some kept) = (kept < limit) × All (λ level. kept_count level n < limit → kept_count level n ≤ kept) levels

-- to the old indices those in the keys are added, in an order that is cut at what each of the levels keeps of n points
abbrev pub IsCutAdded : List ℕ → ℕ → List ℕ → List ℕ → List ℕ → Type 0
IsCutAdded levels n keys old new = (cut : List ℕ) × IsPermutation keys cut × All (λ level. IsCutAt (kept_count level n) cut) levels
    × (new ≡ old ++ map index_in cut)
