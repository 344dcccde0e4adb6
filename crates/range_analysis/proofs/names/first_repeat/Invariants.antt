use Rattle.std.proofs.Common.{◌≡◌, take}
use Rattle.range_analysis.specs.Entries.{names_of}
use Rattle.range_analysis.specs.Names.{DifferBefore}
use Rattle.range_analysis.specs.Tracks.{entries_in}
use Rattle.range_analysis.proofs.Repeats.{texts}
use Rattle.range_analysis.proofs.names.first_repeat.Given as goal

abbrev pub invariant-loop-second : goal.invariant-loop-second
invariant-loop-second l = record {
  seen : texts l.seen.keys ≡ take l.second (names_of (entries_in l.tracks));
  differ : DifferBefore (names_of (entries_in l.tracks)) l.second;
}
