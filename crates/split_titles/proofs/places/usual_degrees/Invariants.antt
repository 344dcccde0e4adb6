use Rattle.std.proofs.Common.{length}
use Rattle.split_titles.specs.Columns.{IfPairWithin}
use Rattle.split_titles.proofs.places.usual_degrees.Given as goal

abbrev pub invariant-loop-longitude : goal.invariant-loop-longitude
invariant-loop-longitude l = IfPairWithin (length l.titles) l.found
