use Rattle.std.proofs.Common.{All, take}
use Rattle.split_folder.specs.Names.{IsOfName}
use Rattle.split_folder.proofs.names.are_of_name.Given as goal

abbrev pub invariant-loop-byte : goal.invariant-loop-byte
invariant-loop-byte l = All IsOfName (take l.byte-index l.bytes)
