-- Points that rise, by their indices, and a search among them.
use Rattle.std.specs.Prelude.{ℕ, ◌+◌, ◌<◌, ◌≤◌, ◌<ℤ◌, ◌≤ℤ◌, List}
use Rattle.range_plane.specs.Edges.{at}
use Rattle.range_plane.specs.Order.{rank}
use Rattle.range_plane.specs.Plane.{Position}
use Rattle.range_pieces.specs.Pieces.{piece}

-- each of the first n points comes after those before it
abbrev pub Rises : (ℕ → Position) → ℕ → Type 0
Rises point n = (i j : ℕ) → i < j → j < n → rank (point i) <ℤ rank (point j)

-- p comes after point `low`, unless that is the first, and not after the one `size` further on, if there is one
pub record IsBetween (point : ℕ → Position) (n : ℕ) (p : Position) (low size : ℕ) : Type 0 where
  pub some : 0 < size
  pub within : low + size ≤ n
  pub passed : 0 < low → rank (point low) <ℤ rank p
  pub reached : low + size < n → rank p ≤ℤ rank (point (low + size))

-- the first point of piece i
abbrev pub first_of : List (List Position) → ℕ → Position
first_of bs i = at (piece bs i) 0
