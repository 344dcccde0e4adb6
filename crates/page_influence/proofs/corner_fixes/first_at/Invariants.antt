use Rattle.std.proofs.Common.{◌≡◌, ℕ, ◌-◌, ◌<◌, ◌≤◌, length}
use Rattle.range_plane.specs.Edges.{at}
use Rattle.page_influence.proofs.corner_fixes.first_at.Given as goal

abbrev pub invariant-loop-corner : goal.invariant-loop-corner
invariant-loop-corner l = (k : ℕ) × (l.index ≤ k) × (k < length l.points.points) × (at l.points.points k ≡ l.corner)

abbrev pub decreases-loop-corner : goal.decreases-loop-corner
decreases-loop-corner l = length l.points.points - l.index
