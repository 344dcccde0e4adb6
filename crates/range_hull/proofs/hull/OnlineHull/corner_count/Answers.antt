use Rattle.std.proofs.Common.{ap, arith, length}
use Rattle.range_pieces.specs.Pieces.{all_points}
use Rattle.range_hull.specs.Hull.{Hull}
use Rattle.range_hull.proofs.Hulls.{length_corners}
use Rattle.range_hull.proofs.hull.OnlineHull.corner_count.Goals as goal

pub returns : goal.returns
returns g c = omega (
  arith,
  length_corners (all_points c.self.inside.lower.pieces) (all_points c.self.inside.upper.pieces),
  ap (λ (h : Hull). length h.corners) c.self.view_is,
)
