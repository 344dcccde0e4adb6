use Rattle.std.proofs.Common.{map, take}
use Rattle.page_record.specs.Counts.{IsTallyOf}
use Rattle.page_record.specs.Reading.{left_seen, track_seen}
use Rattle.page_record.proofs.counts.tally.Given as goal

abbrev pub invariant-loop-index : goal.invariant-loop-index
invariant-loop-index l = IsTallyOf (map left_seen l.own.left.items) (map track_seen (take l.index l.own.tracks.entries)) l.table.entries
