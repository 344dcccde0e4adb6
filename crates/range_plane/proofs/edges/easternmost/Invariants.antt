use Rattle.std.proofs.Common.{ℕ, ◌-◌, ◌<◌, ◌≤◌, length}
use Rattle.range_plane.specs.Plane.{IsAtMost}
use Rattle.range_plane.specs.Edges.{at}
use Rattle.range_plane.proofs.edges.easternmost.Given as goal

abbrev pub invariant-loop-low : goal.invariant-loop-low
invariant-loop-low l = record {
  some : 0 < l.low;
  ordered : l.low ≤ l.high;
  within : l.high < length l.corners;
  rises : (i : ℕ) → i ≤ l.low → IsAtMost (at l.corners i) (at l.corners l.low);
  falls : (i : ℕ) → l.high ≤ i → i < length l.corners → IsAtMost (at l.corners i) (at l.corners l.high);
}

abbrev pub decreases-loop-low : goal.decreases-loop-low
decreases-loop-low l = l.high - l.low
