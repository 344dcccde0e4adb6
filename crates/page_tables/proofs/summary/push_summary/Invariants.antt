use Rattle.std.proofs.Common.{◌≡◌, ◌++◌, flat_map, take}
use Rattle.page_facts.specs.Dates.{are_dates}
use Rattle.page_report.specs.Reading.{read, said}
use Rattle.page_tables.specs.Lines.{table}
use Rattle.page_tables.specs.Summary.{animal_lines}
use Rattle.page_tables.proofs.summary.push_summary.Given as goal

abbrev pub invariant-loop-animal : goal.invariant-loop-animal
invariant-loop-animal l =
    l.text.items ≡ l.initial.text.items ++ flat_map (λ animal. table (animal_lines (are_dates (read l.report)) l.report.unit (said animal))) (take l.animal-index l.report.animals.items)
