use Rattle.std.proofs.Common.{◌≡◌, drop, fold}
use Rattle.std.specs.List.{filter_map}
use Rattle.split_fates.specs.Shift.{extent_of, used_metres, widened}
use Rattle.split_fates.proofs.shift.extent_of.Given as goal

abbrev pub invariant-loop-row : goal.invariant-loop-row
invariant-loop-row l = extent_of l.rows ≡ fold widened l.extent (filter_map used_metres (drop l.row-index l.rows))
