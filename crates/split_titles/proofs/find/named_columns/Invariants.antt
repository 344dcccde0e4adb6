use Rattle.std.proofs.Common.{◌<◌, All, length}
use Rattle.split_titles.proofs.find.named_columns.Given as goal

abbrev pub invariant-loop-wanted : goal.invariant-loop-wanted
invariant-loop-wanted g l = All (λ at. at < length l.titles) l.places.items
