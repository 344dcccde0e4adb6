-- The edges of a polygon by the indices of their first corners, those that a point falls between, and the corner that comes last in order.
use Rattle.std.specs.Prelude.{ℕ, ◌+◌, ◌-◌, ◌<◌, pos, ◌<ℤ◌, List, length, slice_index_or, Contains}
use Rattle.range_plane.specs.Plane.{Position, origin, turn, IsAtMost, IsBefore}

-- the position at index i of a list, such as a corner of a polygon; the origin past its end
abbrev pub at : List Position → ℕ → Position
at L i = slice_index_or L i origin

-- the corner after the one at index i, the first after the last
abbrev pub next : List Position → ℕ → Position
next L i = slice_index_or L (i + 1) (at L 0)

-- no corner comes after the one at index `top`
pub record IsTop (L : List Position) (top : ℕ) : Type 0 where
  pub within : 0 < length L → top < length L
  pub greatest : (x : Position) → Contains L x → IsAtMost x (at L top)

-- a comes before b by easting and then by northing, and q is neither before a nor after b
pub record Spans (a b q : Position) : Type 0 where
  pub rising : IsBefore a b
  pub from : IsAtMost a q
  pub to : IsAtMost q b

-- the point at index i, from 2 on, is on the left of the way to its predecessor from the first point, and from the one before that predecessor
abbrev pub TurnsLeftAt : List Position → ℕ → Type 0
TurnsLeftAt L i = (pos 0 <ℤ turn (at L 0) (at L (i - 1)) (at L i)) × (pos 0 <ℤ turn (at L (i - 2)) (at L (i - 1)) (at L i))
