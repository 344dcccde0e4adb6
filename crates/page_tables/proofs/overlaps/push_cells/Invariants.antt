use Rattle.std.proofs.Common.{◌≡◌, ◌++◌, ◌-◌, length}
use Rattle.page_report.specs.Reading.{read}
use Rattle.page_tables.specs.Lines.{behind}
use Rattle.page_tables.specs.Overlaps.{cells_from}
use Rattle.page_tables.proofs.overlaps.push_cells.Given as goal

abbrev pub invariant-loop-range : goal.invariant-loop-range
invariant-loop-range l =
    l.text.items ++ behind (cells_from (read l.report) l.animal l.range (length (read l.report).animals - l.range))
    ≡ l.initial.text.items ++ behind (cells_from (read l.report) l.animal 0 (length (read l.report).animals))
