use Rattle.std.proofs.Common.{◌<◌, All, length}
use Rattle.split_titles.proofs.find.other_animals.Given as goal

abbrev pub invariant-loop-at : goal.invariant-loop-at
invariant-loop-at g l = All (λ at. at < length l.titles) l.others.items
