use Rattle.std.proofs.Common.{◌≡◌, ◌++◌, flat_map, take}
use Rattle.page_tables.specs.Lines.{behind_comma, name_cell}
use Rattle.page_tables.proofs.overlaps.push_names.Given as goal

abbrev pub invariant-loop-animal : goal.invariant-loop-animal
invariant-loop-animal l =
    l.text.items ≡ l.initial.text.items ++ flat_map (λ animal. behind_comma (name_cell animal.name.items)) (take l.animal-index l.report.animals.items)
