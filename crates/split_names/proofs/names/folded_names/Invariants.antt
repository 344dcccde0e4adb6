use Rattle.std.proofs.Common.{◌≡◌, map, take}
use Rattle.split_names.specs.Names.{bytes_of, folded}
use Rattle.split_names.proofs.names.folded_names.Given as goal

abbrev pub invariant-loop-name : goal.invariant-loop-name
invariant-loop-name l = bytes_of l.keys.items ≡ map folded (bytes_of (take l.name-index l.names))
