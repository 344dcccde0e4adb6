use Rattle.std.proofs.Common.{◌≡◌, ◌+◌, ◌++◌, List, map, length, vec_len}
use Rattle.std.specs.Vec.Iter.{into_iter_items, into_iter_len}
use Rattle.range_collect.specs.Shares.{AreDealt}
use Rattle.range_collect.proofs.shares.deal.Given as goal

abbrev pub invariant-loop-i : goal.invariant-loop-i
invariant-loop-i g l = record {
  can : (goal.iterator-loop-i g).can_next l.i-iterator;
  finite : (goal.iterator-loop-i g).is_finite l.i-iterator;
  left : l.i-iterator.count + into_iter_len l.i-iterator.iter ≡ vec_len l.fn.all;
  count : vec_len l.shares ≡ l.count;
  dealt : (done : List _) × (l.fn.all.items ≡ done ++ into_iter_items l.i-iterator.iter) × (length done ≡ l.i-iterator.count)
      × AreDealt done (map (λ share. share.items) l.shares.items);
}
