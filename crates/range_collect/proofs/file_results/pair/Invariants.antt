use Rattle.std.proofs.Common.{◌≡◌, ◌+◌, ◌≤◌, ◌++◌, All, map, vec_len, vec_capacity, length}
use Rattle.std.specs.Vec.Iter.{into_iter_items}
use Rattle.range_collect.specs.Follow.{IsResult}
use Rattle.range_collect.specs.LineFiles.{IsSeen}
use Rattle.range_lemmas.proofs.Indices.{Threes}
use Rattle.range_collect.proofs.file_results.pair.Given as goal

abbrev pub invariant-loop-read : goal.invariant-loop-read
invariant-loop-read g l = record {
  room : vec_len l.all + length (into_iter_items l.read-iterator) ≤ vec_capacity l.all;
  feeders_count : length (into_iter_items l.feeders) ≡ length (into_iter_items l.read-iterator);
  estimators_count : length (into_iter_items l.estimators) ≡ length (into_iter_items l.read-iterator);
  results : Threes (λ f r e. IsResult f r e f.closed) (into_iter_items l.feeders) (into_iter_items l.read-iterator) (into_iter_items l.estimators);
  feeders : map (λ f. f.feeder) l.all.items ++ into_iter_items l.feeders ≡ l.fn.feeders.items;
  reads : map (λ f. f.read) l.all.items ++ into_iter_items l.read-iterator ≡ l.fn.reads.items;
  estimators : map (λ f. f.estimator) l.all.items ++ into_iter_items l.estimators ≡ l.fn.estimators.items;
  seen : All (λ f. IsSeen f.feeder f.marked) l.all.items;
}
