-- What stays covered where a set grows.
use Rattle.std.specs.Prelude.{IsTrue, List, Contains}
use Rattle.range_plane.specs.ConvexCover.{is_covered}
use Rattle.range_plane.specs.Plane.{Position}
use Rattle.range_plane.specs.Polygon.{IsPolygon}

-- the polygon M of a larger set covers what the polygon L of a smaller one covers
abbrev pub CoveredPointsStayCovered : Type 0
CoveredPointsStayCovered =
    (S T L M : List Position) (p : Position) → IsPolygon S L → IsPolygon T M → ((s : Position) → Contains S s → Contains T s)
    → IsTrue (is_covered L p) → IsTrue (is_covered M p)
