use Rattle.std.proofs.Common.{◌≡◌, ◌*◌, take, length}
use lib.Lanes.{Each1}
use Rattle.range_lanes.specs.Totals.{IsSumOf, total}
use Rattle.range_lanes.proofs.totals.sum_of.Given as goal

abbrev pub invariant-loop-group : goal.invariant-loop-group
invariant-loop-group l = record {
  eight : length l.partial ≡ 8;
  summed : total l.partial ≡ total (take (8 * l.group) l.coordinates);
  small : Each1 (IsSumOf l.group) l.partial;
}
