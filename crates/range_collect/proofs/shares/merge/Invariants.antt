use Rattle.std.proofs.Common.{◌≡◌, ◌≤◌, map, vec_len, vec_capacity}
use Rattle.std.specs.Vec.Iter.{into_iter_items}
use Rattle.range_collect.proofs.Deals.{AreLeft, AreTaken}
use Rattle.range_collect.proofs.shares.merge.Given as goal

abbrev pub invariant-loop-i : goal.invariant-loop-i
invariant-loop-i g l = record {
  lines : vec_len l.left ≡ l.n;
  len : vec_len l.all ≡ l.i;
  room : l.count ≤ vec_capacity l.all;
  left : AreLeft l.i (map (λ share. into_iter_items share) l.left.items) (map (λ share. share.items) l.fn.shares.items);
  taken : AreTaken l.i l.all.items (map (λ share. share.items) l.fn.shares.items);
}
