-- What a finite set of positions covers: its convex hull, by segments and triangles of its members, as geometry has it. A set is a list, read by membership.
use Rattle.std.specs.Prelude.{ℕ, ◌+◌, ◌<◌, ℤ, pos, ◌+ℤ◌, ◌-ℤ◌, ◌*ℤ◌, ◌≤ℤ◌, ◌<ℤ◌, ◌≡◌, int_lt, int_le, Bool, ◌&&◌, ◌||◌, List, length, slice_index_or, Contains}
use Rattle.std.specs.List.{list_any}
use Rattle.std.specs.Ordering.{int_eq}
use Rattle.range_plane.specs.Plane.{Position, turn}

-- the scalar product of the vectors from q to a and from q to b: at most 0 where q lies in the disc whose diameter is a b
unfoldable pub scalar_product : Position → Position → Position → ℤ
scalar_product q a b = (a.e -ℤ q.e) *ℤ (b.e -ℤ q.e) +ℤ (a.n -ℤ q.n) *ℤ (b.n -ℤ q.n)

-- how far s lies past q in the direction d: positive ahead of q, negative behind it
unfoldable pub advance : Position → Position → Position → ℤ
advance d q s = d.e *ℤ (s.e -ℤ q.e) +ℤ d.n *ℤ (s.n -ℤ q.n)

-- q lies on the segment from a to b, its ends included; with a = b, q is a
pub record IsOnSegment (q a b : Position) : Type 0 where
  pub straight : turn a b q ≡ pos 0
  pub between : scalar_product q a b ≤ℤ pos 0

-- q lies in the triangle a b c, which goes counterclockwise, its edges and corners included
pub record IsInTriangle (q a b c : Position) : Type 0 where
  pub proper : pos 0 <ℤ turn a b c
  pub first : pos 0 ≤ℤ turn a b q
  pub second : pos 0 ≤ℤ turn b c q
  pub third : pos 0 ≤ℤ turn c a q

-- S covers q: it lies on a segment between two members of S, which may be one member twice, or in a triangle of
-- three
pub data Covers (S : List Position) (q : Position) : Type 0 where
  by_segment : (a b : Position) → Contains S a → Contains S b → IsOnSegment q a b → Covers S q
  by_triangle : (a b c : Position) → Contains S a → Contains S b → Contains S c → IsInTriangle q a b c → Covers S q

-- whether q lies on the segment from a to b, its ends included
abbrev pub is_on_segment : Position → Position → Position → Bool
is_on_segment q a b = int_eq (turn a b q) (pos 0) && int_le (scalar_product q a b) (pos 0)

-- whether q lies in the triangle a b c, which goes counterclockwise, its edges and corners included
abbrev pub is_in_triangle : Position → Position → Position → Position → Bool
is_in_triangle q a b c = int_lt (pos 0) (turn a b c) && int_le (pos 0) (turn a b q) && int_le (pos 0) (turn b c q) && int_le (pos 0) (turn c a q)

-- whether S covers q: whether it lies on a segment between two members of S or in a triangle of three
unfoldable pub is_covered : List Position → Position → Bool
is_covered S q =
    list_any (λ a. list_any (λ b. is_on_segment q a b) S) S
    || list_any (λ a. list_any (λ b. list_any (λ c. is_in_triangle q a b c) S) S) S

-- q is on the left of each edge of L, or on it, the edge from the last corner to the first included
pub record IsLeftOfEdges (L : List Position) (q : Position) : Type 0 where
  pub edges : (k : ℕ) (d : Position) → k + 1 < length L → pos 0 ≤ℤ turn (slice_index_or L k d) (slice_index_or L (k + 1) d) q
  pub closing : (k : ℕ) (d : Position) → k + 1 ≡ length L → pos 0 ≤ℤ turn (slice_index_or L k d) (slice_index_or L 0 d) q
