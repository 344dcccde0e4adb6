use Rattle.std.proofs.Common.{◌≡◌, ◌++◌, decimal, flat_map, take}
use Rattle.page_tables.specs.Lines.{behind_comma}
use Rattle.page_tables.proofs.animals.push_left_cells.Given as goal

abbrev pub invariant-loop-count : goal.invariant-loop-count
invariant-loop-count l = l.text.items ≡ l.initial.text.items ++ flat_map (λ count. behind_comma (decimal count)) (take l.count-index l.left)
