-- What contracts see of columns of points.
use Rattle.std.specs.Prelude.{ℕ, List}
use Rattle.range_plane.specs.Plane.{Position}

-- the points, and how many more can be pushed without memory
pub record Contents : Type 0 where
  pub points : List Position
  pub spare : ℕ
