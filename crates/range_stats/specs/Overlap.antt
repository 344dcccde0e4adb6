-- The overlap of one animal's fixes with the range of another.
use Rattle.std.specs.Prelude.{ℕ, List, count_by}
use Rattle.range_plane.specs.ConvexCover.{is_covered}
use Rattle.range_plane.specs.Plane.{Position}

-- how many of the points the set covers, repeats counted
abbrev pub overlap : List Position → List Position → ℕ
overlap points set = count_by (is_covered set) points
