use Rattle.std.proofs.Common.{◌≡◌, ◌++◌, flat_map, take}
use Rattle.page_report.specs.Reading.{read}
use Rattle.page_tables.specs.Animals.{level_cell}
use Rattle.page_tables.specs.Lines.{behind_comma}
use Rattle.page_tables.proofs.animals.push_level_cells.Given as goal

abbrev pub invariant-loop-own : goal.invariant-loop-own
invariant-loop-own l =
    l.text.items ≡ l.initial.text.items ++ flat_map (λ own. behind_comma (level_cell (read l.report) l.animal own)) (take l.own-index l.levels)
