use Rattle.std.proofs.Common.{length}
use Rattle.split_titles.specs.Places.{AreFoundWithin}
use Rattle.split_titles.proofs.places.usual_metres.Given as goal

abbrev pub invariant-loop-family : goal.invariant-loop-family
invariant-loop-family l = AreFoundWithin (length l.titles) l.found
