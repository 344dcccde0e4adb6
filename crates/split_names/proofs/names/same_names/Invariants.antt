use Rattle.std.proofs.Common.{◌≡◌, [], take, drop}
use Rattle.split_names.specs.Names.{bytes_of, same_after}
use Rattle.split_names.proofs.MetTexts.{met}
use Rattle.split_names.proofs.names.same_names.Given as goal

abbrev pub invariant-loop-place : goal.invariant-loop-place
invariant-loop-place l = record {
  seen : met l.met.keys ≡ take l.place (bytes_of l.names);
  so_far : same_after (take l.place (bytes_of l.names)) (drop l.place (bytes_of l.names)) ≡ same_after [] (bytes_of l.names);
}
