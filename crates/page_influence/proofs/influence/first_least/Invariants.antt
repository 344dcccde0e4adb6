use Rattle.std.proofs.Common.{◌≡◌, ℕ, ◌<◌, ◌≤◌, get_or, length}
use Rattle.page_influence.proofs.influence.first_least.Given as goal

abbrev pub invariant-loop-index : goal.invariant-loop-index
invariant-loop-index l = record {
  within : l.least.index < length l.areas;
  area : l.least.area2 ≡ get_or l.areas l.least.index 0;
  least : (k : ℕ) → k < l.index → l.least.area2 ≤ get_or l.areas k 0;
  first : (k : ℕ) → k < l.least.index → l.least.area2 < get_or l.areas k 0;
}
