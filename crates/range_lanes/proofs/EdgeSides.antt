-- The lines through edges: on which side of one points lie, and that a table has one of each edge.
use Rattle.std.proofs.Common.{◌≡◌, ℕ, ◌<◌, ◌≤◌, unsigned_abs, to_z, of_z, w64, ℤ, pos, ◌+ℤ◌, ◌-ℤ◌, ◌*ℤ◌, ◌+◌, List, length, get_or, set, map, ap, inl, inr, ◌∙◌, arith}
use lib.Lanes.{zip2}
use Rattle.std.proofs.lemmas.Int.{to_z-of_z}
use Rattle.std.proofs.lemmas.Bool.{cases_eq}
use Rattle.std.proofs.lemmas.List.{get_or-set_other, get_or-set_same}
use Rattle.std.proofs.lemmas.Simd.{map-map, zip2-map}
use Rattle.range_plane.specs.Edges.{at}
use Rattle.range_plane.specs.Plane.{IsWithinLimits, Position, coordinate_limit, origin, turn, turn_limit}
use Rattle.range_lemmas.proofs.Integers.{distribute, linear}
use Rattle.range_lemmas.proofs.Sizes.{abs_difference, fits_from_size}
use Rattle.range_lanes.specs.EdgeLines.{IsLineOf, corner_before, side}
use Rattle.range_lanes.specs.Lanes.{IsBounded}
use Rattle.range_lanes.specs.declared.edge_lines.EdgeLine.{EdgeLine}

-- what code over i64 keeps of a number that is small enough
pub size_kept : (m : ℕ) → m < 9223372036854775808 → (z : ℤ) → unsigned_abs z ≤ m → to_z w64 (of_z w64 z) ≡ z
size_kept m small z h = to_z-of_z w64 z (fits_from_size m small z h)

-- the sides of points, by how far they lie from the axes
pub sides_value : (line : EdgeLine) (vs : List Position) (north east s t d r : List ℤ) → north ≡ map (λ p. p.n -ℤ pos 0) vs
    → east ≡ map (λ p. p.e -ℤ pos 0) vs → s ≡ map (λ x. line.east *ℤ x) north → t ≡ map (λ x. line.north *ℤ x) east → d ≡ zip2 ◌-ℤ◌ s t
    → r ≡ map (λ x. line.at_origin +ℤ x) d → r ≡ map (side line) vs
sides_value line vs north east s t d r hn he hs ht hd hr =
    let first = hs ∙ ap (map (λ x. line.east *ℤ x)) hn ∙ map-map (λ x. line.east *ℤ x) (λ (p : Position). p.n -ℤ pos 0) vs in
    let second = ht ∙ ap (map (λ x. line.north *ℤ x)) he ∙ map-map (λ x. line.north *ℤ x) (λ (p : Position). p.e -ℤ pos 0) vs in
    let apart = hd ∙ ap (λ l. zip2 ◌-ℤ◌ l t) first ∙ ap (zip2 ◌-ℤ◌ (map (λ p. line.east *ℤ (p.n -ℤ pos 0)) vs)) second
    ∙ zip2-map ◌-ℤ◌ (λ (p : Position). line.east *ℤ (p.n -ℤ pos 0)) (λ (p : Position). line.north *ℤ (p.e -ℤ pos 0)) vs in
    hr ∙ ap (map (λ x. line.at_origin +ℤ x)) apart
    ∙ map-map (λ x. line.at_origin +ℤ x) (λ (p : Position). line.east *ℤ (p.n -ℤ pos 0) -ℤ line.north *ℤ (p.e -ℤ pos 0)) vs

product_from_axis : (k x y : ℤ) → k *ℤ (x -ℤ y) ≡ k *ℤ (x -ℤ pos 0) +ℤ k *ℤ (pos 0 -ℤ y)
product_from_axis k x y =
    let way : x -ℤ y ≡ (x -ℤ pos 0) +ℤ (pos 0 -ℤ y) = omega (arith, linear) in
    ap (λ z. k *ℤ z) way ∙ distribute k (x -ℤ pos 0) (pos 0 -ℤ y)

-- a turn is the one at the origin, moved along the axes
pub turn_from_origin : (a b q : Position)
    → turn a b origin +ℤ ((b.e -ℤ a.e) *ℤ (q.n -ℤ pos 0) -ℤ (b.n -ℤ a.n) *ℤ (q.e -ℤ pos 0)) ≡ turn a b q
unfolding turn
turn_from_origin a b q =
    omega (arith, linear, product_from_axis (b.e -ℤ a.e) q.n a.n, product_from_axis (b.n -ℤ a.n) q.e a.e)

-- the line through two points, as code makes it
pub line_through : (a b : Position) (line : EdgeLine) → IsWithinLimits a → IsWithinLimits b → line.east ≡ b.e -ℤ a.e → line.north ≡ b.n -ℤ a.n
    → line.at_origin ≡ turn a b origin → IsBounded turn_limit line.at_origin → IsLineOf a b line
line_through a b line in_a in_b east north at_origin bounded = record {
  limits = record {
    east = rw east (abs_difference coordinate_limit b.e a.e in_b.0 in_a.0);
    north = rw north (abs_difference coordinate_limit b.n a.n in_b.1 in_a.1);
    at_origin = bounded;
  };
  sides = λ q. rw (at_origin, east, north) (turn_from_origin a b q);
}

-- ---- a table of lines
-- the lines of the edges that end at the first n corners
abbrev pub AreFirstLines : List Position → List EdgeLine → ℕ → Type 0
AreFirstLines L lines n = (k : ℕ) (d : EdgeLine) → k < n → IsLineOf (corner_before L k) (at L k) (get_or lines k d)

-- one more line in the table
pub lines_more : (L : List Position) (lines : List EdgeLine) (i : ℕ) (line : EdgeLine) → i < length lines → AreFirstLines L lines i
    → IsLineOf (corner_before L i) (at L i) line → AreFirstLines L (set lines i line) (i + 1)
lines_more L lines i line within first last = λ k d less.
    elim (cases_eq k i) [
      | inl same ↦ rw (same, get_or-set_same lines i line d within) last
      | inr other ↦ rw (get_or-set_other lines i k line d other) (first k d (omega (arith, less, other)))
    ]
