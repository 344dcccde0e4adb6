-- The lines through the edges of a polygon.
use Rattle.std.specs.Prelude.{ℕ, zero, suc, ◌<◌, ◌≤◌, ◌-◌, ℤ, pos, ◌≡◌, ◌+ℤ◌, ◌-ℤ◌, ◌*ℤ◌, List, length, slice_index_or}
use Rattle.range_plane.specs.Edges.{at}
use Rattle.range_plane.specs.Plane.{Position, coordinate_limit, turn, turn_limit}
use Rattle.range_lanes.specs.Lanes.{IsBounded}
use Rattle.range_lanes.specs.declared.edge_lines.EdgeLine.{EdgeLine}

-- on which side of the line q lies: above 0 on its left, 0 on it
abbrev pub side : EdgeLine → Position → ℤ
side line q = line.at_origin +ℤ (line.east *ℤ (q.n -ℤ pos 0) -ℤ line.north *ℤ (q.e -ℤ pos 0))

-- a line through two points
pub record IsLine (line : EdgeLine) : Type 0 where
  pub east : IsBounded coordinate_limit line.east
  pub north : IsBounded coordinate_limit line.north
  pub at_origin : IsBounded turn_limit line.at_origin

-- the line through a and b
pub record IsLineOf (a b : Position) (line : EdgeLine) : Type 0 where
  pub limits : IsLine line
  pub sides : (q : Position) → side line q ≡ turn a b q

-- the corner before the k-th, round the polygon
abbrev pub corner_before : List Position → ℕ → Position
corner_before L zero = at L (length L - 1)
corner_before L (suc k) = at L k

-- of each corner the line of the edge that ends there
pub record AreLinesOf (L : List Position) (lines : List EdgeLine) : Type 0 where
  pub room : length L ≤ length lines
  pub each : (k : ℕ) (d : EdgeLine) → k < length L → IsLineOf (corner_before L k) (at L k) (slice_index_or lines k d)
