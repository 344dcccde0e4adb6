-- A list of points that is kept in pieces.
use Rattle.std.specs.Prelude.{ℕ, ◌+◌, ◌*◌, ◌/◌, ◌<◌, ◌≤◌, ◌⊎◌, max, min, List, [], ◌∷◌, ◌++◌, length, take, drop, slice_index_or}
use Rattle.std.specs.List.{flat_map}
use Rattle.range_plane.specs.Plane.{Position}
use Rattle.range_pieces.specs.declared.piece.TheConstants.{PIECE_SIZE}
use Rattle.range_pieces.specs.declared.shelf.TheConstants.{MOST_PIECES}

-- how many points a piece holds at most
abbrev pub piece_size : ℕ
piece_size = PIECE_SIZE

-- the points of all pieces, one piece after the other
abbrev pub all_points : List (List Position) → List Position
all_points bs = flat_map (λ (b : List Position). b) bs

-- the piece at index i
abbrev pub piece : List (List Position) → ℕ → List Position
piece bs i = slice_index_or bs i []

-- how many points stand before piece i
abbrev pub offset : List (List Position) → ℕ → ℕ
offset bs i = length (all_points (take i bs))

-- L with p in place of the points from `from` up to `to`
abbrev pub exchange : List Position → Position → ℕ → ℕ → List Position
exchange L p from to = take from L ++ p ∷ drop to L

-- pieces hold at least one point, and at most piece_size; neighbours hold more than piece_size together, save for those at indices from lo up to hi
pub record IsCut (bs : List (List Position)) (lo hi : ℕ) : Type 0 where
  pub filled : (i : ℕ) → i < length bs → 0 < length (piece bs i)
  pub bound : (i : ℕ) → i < length bs → length (piece bs i) ≤ piece_size
  pub tight : (i : ℕ) → i + 1 < length bs → (i < lo) ⊎ (hi ≤ i) → piece_size < length (piece bs i) + length (piece bs (i + 1))

-- more pieces are never made
abbrev pub most_pieces : ℕ
most_pieces = MOST_PIECES

-- how many points t pieces hold at least, however they are cut
abbrev pub capacity_of : ℕ → ℕ
capacity_of t = piece_size * max (min 1 t) (t / 2)
