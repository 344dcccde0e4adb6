use Rattle.std.proofs.Common.{◌≡◌, ◌≤◌, length, map, take, vec_capacity, vec_len}
use Rattle.split_names.specs.Clean.{plain}
use Rattle.split_names.proofs.clean.plain_bytes.Given as goal

abbrev pub invariant-loop-byte : goal.invariant-loop-byte
invariant-loop-byte g l = record {
  so_far : l.own.items ≡ map plain (take l.byte-index l.bytes);
  count : vec_len l.own ≡ l.byte-index;
  room : length l.bytes ≤ vec_capacity l.own;
}
