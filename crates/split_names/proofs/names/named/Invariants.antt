use Rattle.std.proofs.Common.{◌≡◌, ◌++◌, [], take, drop}
use Rattle.split_names.specs.Names.{bytes_of, named}
use Rattle.split_names.proofs.MetTexts.{Tells}
use Rattle.split_names.proofs.names.named.Given as goal

abbrev pub invariant-loop-place : goal.invariant-loop-place
invariant-loop-place l = record {
  tells : Tells l.met.keys (take l.place (bytes_of l.keys));
  so_far :
      bytes_of l.own.items
      ++ named (take l.place (bytes_of l.keys)) (bytes_of l.keys ++ bytes_of l.added.items) (drop l.place (bytes_of l.names))
      ≡ named [] (bytes_of l.keys) (bytes_of l.names);
}
