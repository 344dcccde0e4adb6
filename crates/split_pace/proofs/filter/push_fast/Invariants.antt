use Rattle.std.proofs.Common.{◌≡◌, ◌++◌, take}
use Rattle.split_pace.specs.Filters.{left_of, parted}
use Rattle.split_pace.specs.Speed.{first_of, is_slow_enough}
use Rattle.split_pace.proofs.filter.push_fast.Given as goal

abbrev pub invariant-loop-entry : goal.invariant-loop-entry
invariant-loop-entry g l = record {
  records : l.left.items ≡ l.fn.left.items ++ left_of (is_slow_enough l.unit l.speed) (take l.entry-index l.track);
  last : l.last ≡ first_of (parted (is_slow_enough l.unit l.speed) (take l.entry-index l.track)).kept;
}
