use Rattle.std.proofs.Common.{◌≡◌, take}
use Rattle.split_record.specs.OneLine.{doubled}
use Rattle.split_record.proofs.one_line.doubled.Given as goal

abbrev pub invariant-loop-byte : goal.invariant-loop-byte
invariant-loop-byte g l = l.own.items ≡ doubled (take l.byte-index l.text)
