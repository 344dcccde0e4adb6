use Rattle.std.proofs.Common.{◌≡◌, ◌++◌, drop, map}
use Rattle.page_facts.specs.Facts.{intervals_behind}
use Rattle.page_facts.proofs.intervals.intervals_behind.Given as goal

abbrev pub invariant-loop-row : goal.invariant-loop-row
invariant-loop-row l =
    l.intervals.items ++ intervals_behind l.former (map (λ row. row.second) (drop l.row-index l.rows)) ≡ intervals_behind l.fn.first (map (λ row. row.second) l.rows)
