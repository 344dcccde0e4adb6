-- What contracts see of a list of points, and of positions in it.
use Rattle.std.specs.Prelude.{ℕ, ◌+◌, ◌<◌, ◌≤◌, ◌≤ℤ◌, ◌<ℤ◌, ◌≡◌, List, length}
use Rattle.range_plane.specs.Edges.{at}
use Rattle.range_plane.specs.Order.{rank}
use Rattle.range_plane.specs.Plane.{Position}
use Rattle.range_pieces.specs.declared.cursor.Cursor.{Cursor}
use Rattle.range_pieces.specs.Pieces.{IsCut, piece, capacity_of, all_points, most_pieces, offset}
use Rattle.range_pieces.specs.Shelf.{Shelved}

-- the pieces of a list; for how many pieces it holds memory, those in use among them; and how many more points can be inserted without memory
pub record Content : Type 0 where
  pub pieces : List (List Position)
  pub held : ℕ
  pub spare : ℕ

-- the points of a list, in their order
abbrev pub points_in : Content → List Position
points_in list = all_points list.pieces

-- the index of the point after the cursor: how many points stand before it
abbrev pub index : List (List Position) → Cursor → ℕ
index bs c = offset bs c.piece + c.within

-- the cursor stands before a point, or after the last
pub record Stands (bs : List (List Position)) (c : Cursor) : Type 0 where
  pub bound : c.piece ≤ length bs
  pub before_point : c.piece < length bs → c.within < length (piece bs c.piece)
  pub at_end : c.piece ≡ length bs → c.within ≡ 0

-- what is true of every list of `len` points, with room for `most`
pub record IsSoundList (shelf : Shelved) (len most : ℕ) : Type 0 where
  pub cut : IsCut shelf.pieces 0 0
  pub counted : len ≡ length (all_points shelf.pieces)
  pub few : length shelf.pieces + shelf.free ≤ most_pieces
  pub room : most ≡ capacity_of (length shelf.pieces + shelf.free)
  pub fits : len ≤ most

-- each point comes after those before it
abbrev pub IsRising : List Position → Type 0
IsRising L = (i j : ℕ) → i < j → j < length L → rank (at L i) <ℤ rank (at L j)

-- p falls at this index of L: the points before it come before p, and no others
pub record FallsAt (L : List Position) (p : Position) (index : ℕ) : Type 0 where
  pub bound : index ≤ length L
  pub before : (i : ℕ) → i < index → rank (at L i) <ℤ rank p
  pub after : (i : ℕ) → index ≤ i → i < length L → rank p ≤ℤ rank (at L i)
