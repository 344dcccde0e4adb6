-- Percent polygons: the polygon of the points that lie nearest to the mean of all.
use Rattle.std.specs.Prelude.{ℕ, ◌+◌, ◌*◌, ◌/◌, ℤ, pos, ◌-ℤ◌, ◌*ℤ◌, unsigned_abs, ◌≡◌, ◌==◌, nat_lt, Bool, ◌&&◌, ◌||◌, All, List, length, map, take, count_by}
use Rattle.std.specs.List.{filter, range_with_len}
use Rattle.std.specs.List.Sorted.{IsPermutation}
use Rattle.range_hull.specs.Hull.{Hull}
use Rattle.range_lanes.specs.Totals.{total}
use Rattle.range_plane.specs.Edges.{at}
use Rattle.range_plane.specs.Plane.{Position}
use Rattle.range_plane.specs.Polygon.{IsPolygon, area2}
use Rattle.range_stats.specs.declared.percents.PercentRow.{PercentRow}

-- the square of a number
abbrev pub square : ℤ → ℕ
square z = unsigned_abs z * unsigned_abs z

-- the squared distance of p from the mean of n points, whose coordinates have these sums, times n * n
abbrev pub scaled_distance : ℕ → ℤ → ℤ → Position → ℕ
scaled_distance n eastings northings p = square (pos n *ℤ p.e -ℤ eastings) + square (pos n *ℤ p.n -ℤ northings)

-- the squared distance of p from the mean of the points, times the square of their number, which makes it a whole number
unfoldable pub distance : List Position → Position → ℕ
distance points p = scaled_distance (length points) (total (map (λ q. q.e) points)) (total (map (λ q. q.n) points)) p

-- the indices of some points, counted from 0
abbrev pub indices : List Position → List ℕ
indices points = range_with_len 0 (length points)

-- the distance of the point at an index from the mean of all, and the index, by which points are ranked
abbrev pub entry : List Position → ℕ → ℕ × ℕ
entry points i = (distance points (at points i), i)

-- whether one point comes before another, by distance and then by index
abbrev pub comes_before : ℕ × ℕ → ℕ × ℕ → Bool
comes_before a b = nat_lt a.0 b.0 || (a.0 == b.0 && nat_lt a.1 b.1)

-- how many points come before the one at index j, by their distance from the mean of all and then by index
abbrev pub count_before : List Position → ℕ → ℕ
count_before points j = count_by (λ i. comes_before (entry points i) (entry points j)) (indices points)

-- the indices of the points that lie nearest to the mean of all: those before which fewer than k come
unfoldable pub nearest : List Position → ℕ → List ℕ
nearest points k = filter (λ j. nat_lt (count_before points j) k) (indices points)

-- the points that lie nearest to the mean of all: those before which fewer than k come
abbrev pub nearest_points : List Position → ℕ → List Position
nearest_points points k = map (at points) (nearest points k)

-- how many of n points a level keeps: so many per cent, rounded up
abbrev pub kept_count : ℕ → ℕ → ℕ
kept_count level n = (level * n + 99) / 100

-- the row of the percent polygon of these points at a level: how many points the level keeps, and the corners and
-- the doubled area of their polygon
pub record IsPercentRow (points : List Position) (level : ℕ) (row : PercentRow) : Type 0 where
  pub same_level : row.level ≡ level
  pub kept : row.kept ≡ length (nearest points (kept_count level (length points)))
  pub polygon : (L : List Position) × IsPolygon (nearest_points points (kept_count level (length points))) L × (row.corners ≡ length L)
      × (pos row.area2 ≡ area2 L)

-- the first k of ranked are the k nearest of the points
abbrev pub AreNearestFirst : List Position → List Position → ℕ → Type 0
AreNearestFirst points ranked k = IsPermutation (nearest_points points k) (take k ranked)

-- ranked lists the points so that those that one of the levels keeps come first
pub record IsRanking (points : List Position) (levels : List ℕ) (ranked : List Position) : Type 0 where
  pub same_length : length ranked ≡ length points
  pub nearest_first : All (λ level. AreNearestFirst points ranked (kept_count level (length points))) levels

-- the row of the percent polygon at a level, where the points that it keeps are the first of these
pub record IsFirstRow (ranked : List Position) (level : ℕ) (row : PercentRow) : Type 0 where
  pub same_level : row.level ≡ level
  pub kept : row.kept ≡ kept_count level (length ranked)
  pub polygon : (L : List Position) × IsPolygon (take (kept_count level (length ranked)) ranked) L × (row.corners ≡ length L) × (pos row.area2 ≡ area2 L)

-- a hull of the points, of which each was counted
pub record IsHullOf (points : List Position) (hull : Hull) : Type 0 where
  pub polygon : IsPolygon points hull.corners
  pub counted : hull.inserted + hull.skipped ≡ length points
