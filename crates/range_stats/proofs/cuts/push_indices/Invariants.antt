use Rattle.std.proofs.Common.{◌≡◌, ◌+◌, ◌++◌, map, take}
use Rattle.std.specs.Prelude.{vec_capacity, vec_len}
use Rattle.range_stats.specs.Keys.{index_in}
use Rattle.range_stats.proofs.cuts.push_indices.Given as goal

abbrev pub invariant-loop-key : goal.invariant-loop-key
invariant-loop-key g l = record {
  items : l.indices.items ≡ l.fn.indices.items ++ map index_in (take l.key-index l.keys);
  len : vec_len l.indices ≡ vec_len l.fn.indices + l.key-index;
  capacity : vec_capacity l.indices ≡ vec_capacity l.fn.indices;
}
