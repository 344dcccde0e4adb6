use Rattle.std.proofs.Common.{◌≡◌, ℕ, ◌+◌, ◌<◌, ◌≤◌, true, drop, get_or, map}
use Rattle.page_facts.specs.Growth.{before_within, is_within}
use Rattle.page_facts.proofs.growth.before_within.Given as goal

abbrev pub invariant-loop-place : goal.invariant-loop-place
invariant-loop-place l = record {
  stands : before_within l.last (map (λ row. row.area2) l.rows) ≡ l.before + before_within l.last (drop l.before (map (λ row. row.area2) l.rows));
  so_far : l.before ≤ l.place;
  stays : (k : ℕ) → l.before ≤ k → k < l.place → is_within l.last (get_or (map (λ row. row.area2) l.rows) k 0) ≡ true;
}
