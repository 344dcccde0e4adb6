use Rattle.std.proofs.Common.{◌≡◌, ◌+◌, ◌≤◌, ◌++◌, map, length, vec_len, vec_capacity}
use Rattle.std.specs.Vec.Iter.{into_iter_items}
use Rattle.range_collect.proofs.shares.members.Given as goal

abbrev pub invariant-loop-share : goal.invariant-loop-share
invariant-loop-share g l = record {
  room : vec_len l.left + length (into_iter_items l.share-iterator) ≤ vec_capacity l.left;
  so_far : map (λ share. into_iter_items share) l.left.items ++ map (λ share. share.items) (into_iter_items l.share-iterator)
      ≡ map (λ share. share.items) l.fn.shares.items;
}
