use Rattle.std.proofs.Common.{◌≡◌, ◌++◌, ◌-◌, length}
use Rattle.page_report.specs.Reading.{read}
use Rattle.page_tables.specs.Lines.{table}
use Rattle.page_tables.specs.Overlaps.{lines_from}
use Rattle.page_tables.proofs.overlaps.push_overlaps.Given as goal

abbrev pub invariant-loop-animal : goal.invariant-loop-animal
invariant-loop-animal l =
    l.text.items ++ table (lines_from (read l.report) l.animal (length (read l.report).animals - l.animal))
    ≡ l.initial.text.items ++ table (lines_from (read l.report) 0 (length (read l.report).animals))
