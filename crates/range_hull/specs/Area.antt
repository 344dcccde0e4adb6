-- What a chain adds to the doubled area: its terms of the shoelace formula.
use Rattle.std.specs.Prelude.{ℕ, ◌-◌, ℤ, pos, neg_ℤ, ◌+ℤ◌, ◌-ℤ◌, ◌*ℤ◌, List, [], ◌∷◌, take, drop, cond, int_lt}
use Rattle.range_plane.specs.Edges.{at}
use Rattle.range_plane.specs.Order.{rank}
use Rattle.range_plane.specs.Plane.{Position}
use Rattle.range_hull.specs.declared.side.Side.{Side}
use Rattle.range_hull.specs.declared.side.Side.TheVariants.{Lower, Upper}

-- the term of the edge from a to b
unfoldable pub wedge : Position → Position → ℤ
wedge a b = a.e *ℤ b.n -ℤ b.e *ℤ a.n

-- the sum of the terms of neighbours
abbrev pub path : List Position → ℤ
path [] = pos 0
path (a ∷ []) = pos 0
path (a ∷ b ∷ L) = wedge a b +ℤ path (b ∷ L)

-- the lower chain goes along with the polygon, the upper one against it
abbrev pub with_sign : Side → ℤ → ℤ
with_sign Lower z = z
with_sign Upper z = neg_ℤ z

abbrev pub sweep_of : Side → List Position → ℤ
sweep_of side L = with_sign side (path L)

-- the same of the first k corners with p after them
abbrev pub sweep_before : Side → List Position → Position → ℕ → ℤ
sweep_before side L p k = with_sign side (path (take k L) +ℤ wedge (at L (k - 1)) p)

-- the same of p with the corners from index k on after it
abbrev pub sweep_after : Side → List Position → Position → ℕ → ℤ
sweep_after side L p k = with_sign side (wedge p (at L k) +ℤ path (drop k L))

-- the edge between p and the first or the last corner, where p is beyond it: what one chain adds of it, the other takes off
abbrev pub open_edge : Position → Position → Position → ℤ
open_edge first last p = cond (int_lt (rank p) (rank first)) (wedge p first) (cond (int_lt (rank last) (rank p)) (wedge last p) (pos 0))
