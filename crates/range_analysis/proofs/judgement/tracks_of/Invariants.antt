use Rattle.std.proofs.Common.{◌≡◌, ◌+◌, ◌≤◌, ◌++◌, None, vec_len, vec_capacity, length}
use Rattle.std.specs.Vec.Iter.{into_iter_items}
use Rattle.range_analysis.specs.Entries.{entries_of, first_fault, first_fault_from, loss_of}
use Rattle.range_analysis.specs.Tracks.{entries_in}
use Rattle.range_analysis.proofs.judgement.tracks_of.Given as goal

abbrev pub invariant-loop-followed : goal.invariant-loop-followed
invariant-loop-followed l = record {
  room : vec_len l.tracks + length (into_iter_items l.followed-iterator) ≤ vec_capacity l.tracks;
  count : vec_len l.tracks + length (into_iter_items l.followed-iterator) ≡ vec_len l.fn.followed;
  whole : loss_of (into_iter_items l.followed-iterator) ≡ None;
  entries : entries_in l.tracks.items ++ entries_of (into_iter_items l.followed-iterator) ≡ entries_of l.fn.followed.items;
  fault : first_fault_from (vec_len l.tracks) (entries_of (into_iter_items l.followed-iterator)) ≡ first_fault (entries_of l.fn.followed.items);
}
