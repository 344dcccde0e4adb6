use Rattle.std.proofs.Common.{◌≡◌, ◌-◌}
use Rattle.split_names.specs.Cut.{cut_place}
use Rattle.split_names.proofs.cut.cut_place.Given as goal

abbrev pub invariant-loop-back : goal.invariant-loop-back
invariant-loop-back l = cut_place l.bytes (3 - l._back) l.place ≡ cut_place l.bytes 3 l.most
