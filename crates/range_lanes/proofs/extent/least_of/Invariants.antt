use Rattle.std.proofs.Common.{◌≡◌, ◌*◌, take, length, fold}
use Rattle.std.specs.Int.{int_min}
use Rattle.range_lanes.proofs.extent.least_of.Given as goal

abbrev pub invariant-loop-group : goal.invariant-loop-group
invariant-loop-group l = record {
  eight : length l.least ≡ 8;
  reached : fold int_min l.first l.least ≡ fold int_min l.first (take (8 * l.group) l.coordinates);
}
