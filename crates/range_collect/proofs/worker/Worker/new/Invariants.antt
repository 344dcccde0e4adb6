use Rattle.std.proofs.Common.{◌≡◌, ◌≤◌, [], All, vec_len, vec_capacity}
use Rattle.range_collect.specs.Follow.{Holds}
use Rattle.range_collect.proofs.worker.Worker.new.Given as goal

abbrev pub invariant-loop-made : goal.invariant-loop-made
invariant-loop-made g l = record {
  len : vec_len l.estimators ≡ l._made;
  room : l.count ≤ vec_capacity l.estimators;
  holds : All (λ e. Holds e []) l.estimators.items;
}
