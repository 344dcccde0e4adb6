use Rattle.std.proofs.Common.{◌≡◌, ◌++◌, drop}
use Rattle.page_facts.specs.Dates.{are_dates}
use Rattle.page_report.specs.Reading.{read}
use Rattle.page_tables.specs.Animals.{told_lines}
use Rattle.page_tables.specs.Lines.{table}
use Rattle.page_tables.proofs.animals.push_animals.Given as goal

abbrev pub invariant-loop-animal : goal.invariant-loop-animal
invariant-loop-animal l =
    l.text.items ++ table (told_lines (read l.report) (are_dates (read l.report)) l.animal (drop l.animal l.told)) ≡ l.initial.text.items ++ table (told_lines (read l.report) (are_dates (read l.report)) 0 l.told)
