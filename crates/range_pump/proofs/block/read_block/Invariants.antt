use Rattle.std.proofs.Common.{◌≡◌, ◌≤◌}
use Rattle.std.specs.Vec.{vec_len, vec_capacity}
use Rattle.range_plane.specs.Fix.{fix_limit}
use Rattle.range_pump.specs.Blocks.{GivesNext}
use Rattle.range_pump.proofs.block.read_block.Given as goal

abbrev pub invariant-loop-number : goal.invariant-loop-number
invariant-loop-number g l = record {
  fixes : GivesNext l.fn.reader l.fixes.items l.reader;
  count : vec_len l.fixes ≡ l._number;
  room : l.size ≤ vec_capacity l.fixes;
  limit : l.reader.count ≤ fix_limit;
}
