use Rattle.std.proofs.Common.{◌≡◌, ◌+◌, ◌-◌, ◌++◌}
use Rattle.split_names.specs.Names.{bytes_of, numbered, numbered_from}
use Rattle.split_names.proofs.numbered.numbered.Given as goal

abbrev pub invariant-loop-tried : goal.invariant-loop-tried
invariant-loop-tried l =
    numbered_from (l.count - l.tried) (l.tried + 2) (bytes_of l.first ++ bytes_of l.others) l.name
    ≡ numbered (bytes_of l.first ++ bytes_of l.others) l.name
