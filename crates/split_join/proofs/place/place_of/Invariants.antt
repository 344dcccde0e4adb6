use Rattle.std.proofs.Common.{◌≡◌, drop}
use Rattle.split_join.specs.Place.{place_in}
use Rattle.split_join.proofs.PlaceFacts.{behind}
use Rattle.split_join.proofs.place.place_of.Given as goal

abbrev pub invariant-loop-text : goal.invariant-loop-text
invariant-loop-text l = place_in l.counts l.number ≡ behind l.text (place_in (drop l.text l.counts) l.left)
