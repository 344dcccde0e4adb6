use Rattle.std.proofs.Common.{◌≡◌, ◌++◌, flat_map, take}
use Rattle.page_report.specs.Reading.{said}
use Rattle.page_tables.specs.Lines.{line}
use Rattle.page_tables.specs.Summary.{summary_cells}
use Rattle.page_tables.proofs.summary.push_animal.Given as goal

abbrev pub invariant-loop-percent : goal.invariant-loop-percent
invariant-loop-percent l =
    l.text.items ≡ l.initial.text.items ++ flat_map (λ percent. line (summary_cells l.dated l.unit (said l.animal) percent)) (take l.percent-index l.animal.percents.items)
