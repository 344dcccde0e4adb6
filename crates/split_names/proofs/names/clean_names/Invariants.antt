use Rattle.std.proofs.Common.{◌≡◌, map, take}
use Rattle.split_names.specs.Clean.{clean}
use Rattle.split_names.specs.Names.{bytes_of}
use Rattle.split_names.proofs.names.clean_names.Given as goal

abbrev pub invariant-loop-name : goal.invariant-loop-name
invariant-loop-name g l = bytes_of l.own.items ≡ map clean (bytes_of (take l.name-index l.names))
