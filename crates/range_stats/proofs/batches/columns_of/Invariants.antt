use Rattle.std.proofs.Common.{◌≡◌, ◌+◌, ◌≤◌, length, take}
use Rattle.range_stats.specs.Keys.{points_at}
use Rattle.range_stats.proofs.batches.columns_of.Given as goal

abbrev pub invariant-loop-index : goal.invariant-loop-index
invariant-loop-index g l = record {
  points : l.cols.points ≡ points_at l.fixes.points (take l.index-index l.indices);
  room : length l.indices ≤ l.cols.spare + l.index-index;
}
