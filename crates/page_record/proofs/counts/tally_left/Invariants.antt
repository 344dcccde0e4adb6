use Rattle.std.proofs.Common.{[], map, take}
use Rattle.page_record.specs.Counts.{IsTallyOf}
use Rattle.page_record.specs.Reading.{left_seen}
use Rattle.page_record.proofs.counts.tally_left.Given as goal

abbrev pub invariant-loop-left : goal.invariant-loop-left
invariant-loop-left l = IsTallyOf (map left_seen (take l.left-index l.lines)) [] l.table.entries
