use Rattle.std.proofs.Common.{◌≡◌, drop}
use Rattle.std.specs.List.{list_any}
use Rattle.std.specs.Str.{bytes_eq}
use Rattle.split_names.specs.Names.{bytes_of}
use Rattle.split_names.proofs.numbered.is_among.Given as goal

abbrev pub invariant-loop-other : goal.invariant-loop-other
invariant-loop-other l = list_any (bytes_eq l.key) (drop l.other-index (bytes_of l.others)) ≡ list_any (bytes_eq l.key) (bytes_of l.others)
