use Rattle.std.proofs.Common.{◌≡◌, ◌≤◌, ◌*◌, ◌^◌, map, take}
use Rattle.std.specs.List.{sum_by}
use Rattle.page_record.specs.Counts.{counted_by}
use Rattle.page_record.specs.Reading.{track_seen}
use Rattle.page_record.proofs.counts.sum_tracks.Given as goal

abbrev pub invariant-loop-index : goal.invariant-loop-index
invariant-loop-index l = record {
  sum : l.sum ≡ sum_by (counted_by l.reason) (map track_seen (take l.index l.tracks.entries));
  small : l.sum ≤ l.index * 2 ^ 32;
}
