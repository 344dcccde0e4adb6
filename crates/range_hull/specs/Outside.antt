-- The test whether a point lies outside of a chain, and so becomes a corner of it.
use Rattle.std.specs.Prelude.{ℕ, ◌+◌, ◌-◌, ◌<◌, ◌≤◌, pos, ◌+ℤ◌, ◌<ℤ◌, ◌≡◌, List, length, Bool}
use Rattle.std.specs.Bool.{OnFalse, OnTrue}
use Rattle.range_plane.specs.Edges.{at}
use Rattle.range_plane.specs.Order.{rank}
use Rattle.range_plane.specs.Plane.{Position}
use Rattle.range_hull.specs.declared.side.Side.{Side}
use Rattle.range_hull.specs.Chain.{LiesWithin, bend}
use Rattle.range_hull.specs.Tally.{Count}

-- the test of p, which falls at index i of the chain L: its answer, and what was counted before and after it
pub record IsTested (side : Side) (L : List Position) (i : ℕ) (p : Position) (is_outside : Bool) (old new : Count) : Type 0 where
  -- outside, p is past the edge between its neighbours, and no corner itself
  pub outside : OnTrue is_outside (0 < i → i < length L → pos 0 <ℤ bend side (at L (i - 1)) p (at L i))
  pub apart : OnTrue is_outside (i < length L → rank p <ℤ rank (at L i))
  pub inside : OnFalse is_outside (LiesWithin side L p)
  pub turns : new.turns ≤ old.turns + 1
  pub rises : old.turns ≤ new.turns
  -- the area gains the triangle of p and its neighbours, where it is outside and has two
  pub gained : OnTrue is_outside (0 < i → i < length L → pos new.area ≡ pos old.area +ℤ bend side (at L (i - 1)) p (at L i))
  pub at_first : i ≡ 0 → new.area ≡ old.area
  pub at_last : i ≡ length L → new.area ≡ old.area
  pub none : OnFalse is_outside (new.area ≡ old.area)
