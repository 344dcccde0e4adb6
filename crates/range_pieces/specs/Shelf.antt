-- What contracts see of a shelf of pieces.
use Rattle.std.specs.Prelude.{ℕ, List}
use Rattle.range_plane.specs.Plane.{Position}

-- the points of each piece, in the pieces' order, and how many pieces are free
pub record Shelved : Type 0 where
  pub pieces : List (List Position)
  pub free : ℕ
