use Rattle.std.proofs.Common.{◌≡◌, ◌≤◌, ◌*◌, ◌^◌, None, map, take}
use Rattle.std.specs.List.{sum_by}
use Rattle.page_record.specs.Counts.{left_by}
use Rattle.page_record.specs.Reading.{left_seen}
use Rattle.page_record.proofs.counts.sum_left.Given as goal

abbrev pub invariant-loop-left : goal.invariant-loop-left
invariant-loop-left l = record {
  sum : l.sum ≡ sum_by (left_by None l.reason) (map left_seen (take l.left-index l.lines));
  small : l.sum ≤ l.left-index * 2 ^ 32;
}
