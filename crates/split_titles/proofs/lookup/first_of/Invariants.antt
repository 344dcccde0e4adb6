use Rattle.std.proofs.Common.{length}
use Rattle.split_titles.specs.Columns.{IsWithin}
use Rattle.split_titles.proofs.lookup.first_of.Given as goal

abbrev pub invariant-loop-title : goal.invariant-loop-title
invariant-loop-title l = IsWithin (length l.titles) l.found
