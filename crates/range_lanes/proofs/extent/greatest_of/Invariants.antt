use Rattle.std.proofs.Common.{◌≡◌, ◌*◌, take, length, fold}
use Rattle.std.specs.Int.{int_max}
use Rattle.range_lanes.proofs.extent.greatest_of.Given as goal

abbrev pub invariant-loop-group : goal.invariant-loop-group
invariant-loop-group l = record {
  eight : length l.greatest ≡ 8;
  reached : fold int_max l.first l.greatest ≡ fold int_max l.first (take (8 * l.group) l.coordinates);
}
