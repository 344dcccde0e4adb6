use Rattle.std.proofs.Common.{◌≡◌, ◌<◌, ℕ, length, get_or}
use Rattle.range_plane.specs.Plane.{Position}
use Rattle.range_lanes.specs.InnerIndices.{index_of}
use Rattle.range_lanes.specs.declared.inner.TheConstants.{INNER_CORNERS}
use Rattle.range_lanes.proofs.inner.inner_of.Given as goal

abbrev pub invariant-loop-i : goal.invariant-loop-i
invariant-loop-i l = record {
  count : length l.inner ≡ INNER_CORNERS;
  each : (j : ℕ) (d : Position) → j < l.i → get_or l.inner j d ≡ get_or l.corners (index_of j (length l.corners)) d;
}
