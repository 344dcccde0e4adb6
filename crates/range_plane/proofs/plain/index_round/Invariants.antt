use Rattle.std.proofs.Common.{ℕ, pos, ◌<◌, ◌≤◌, ◌-◌, ◌<ℤ◌, length, get_or}
use Rattle.range_plane.specs.Plane.{origin, turn}
use Rattle.range_plane.proofs.plain.index_round.Given as goal

abbrev pub invariant-loop-index : goal.invariant-loop-index
invariant-loop-index l = record {
  some : 0 < l.index;
  within : l.index ≤ length l.corners;
  before : (k : ℕ) → 0 < k → k < l.index → pos 0 <ℤ turn (get_or l.corners 0 origin) (get_or l.corners k origin) l.p;
}

abbrev pub decreases-loop-index : goal.decreases-loop-index
decreases-loop-index l = length l.corners - l.index
