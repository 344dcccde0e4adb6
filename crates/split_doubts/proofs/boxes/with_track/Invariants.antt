use Rattle.std.proofs.Common.{◌≡◌, drop, fold}
use Rattle.split_doubts.specs.Boxes.{with_entry, with_track}
use Rattle.split_doubts.proofs.boxes.with_track.Given as goal

abbrev pub invariant-loop-entry : goal.invariant-loop-entry
invariant-loop-entry l = with_track l.fn.extent l.track ≡ fold with_entry l.whole (drop l.entry-index l.track)
