use Rattle.std.proofs.Common.{◌≡◌, ◌≤◌, [], All, vec_len, vec_capacity}
use Rattle.range_collect.proofs.shares.empty_shares.Given as goal

abbrev pub invariant-loop-made : goal.invariant-loop-made
invariant-loop-made g l = record {
  len : vec_len l.shares ≡ l._made;
  room : l.count ≤ vec_capacity l.shares;
  empty : All (λ share. share.items ≡ []) l.shares.items;
}
