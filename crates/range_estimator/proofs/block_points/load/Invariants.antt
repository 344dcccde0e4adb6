use Rattle.std.proofs.Common.{◌≡◌, ◌+◌, ◌≤◌, length, take}
use Rattle.range_plane.specs.Row.{points_of}
use Rattle.range_estimator.proofs.block_points.load.Given as goal

abbrev pub invariant-loop-fix : goal.invariant-loop-fix
invariant-loop-fix g l = record {
  points : l.points.points ≡ points_of (take l.fix-index l.block);
  room : length l.block ≤ l.points.spare + l.fix-index;
}
