-- Where a point falls in a chain that is kept in pieces, and the corners on either side of it.
use Rattle.std.specs.Prelude.{ℕ, ◌-◌, ◌<◌, ◌≡◌, List, length, Option, Some, None}
use Rattle.range_plane.specs.Edges.{at}
use Rattle.range_plane.specs.Plane.{Position}
use Rattle.range_pieces.specs.Pieces.{all_points}
use Rattle.range_pieces.specs.PointList.{FallsAt, Stands, index}
use Rattle.range_hull.specs.declared.spot.Spot.{Spot}

-- what stands before index k of L and what stands after it, where something does
pub record IsBeside (L : List Position) (k : ℕ) (before after : Option Position) : Type 0 where
  pub first : k ≡ 0 → before ≡ None
  pub before_is : 0 < k → before ≡ Some (at L (k - 1))
  pub last : k ≡ length L → after ≡ None
  pub after_is : k < length L → after ≡ Some (at L k)

-- p falls at this spot
pub record IsSpot (bs : List (List Position)) (p : Position) (s : Spot) : Type 0 where
  pub stands : Stands bs s.at
  pub falls : FallsAt (all_points bs) p (index bs s.at)
  pub beside : IsBeside (all_points bs) (index bs s.at) s.before s.after
