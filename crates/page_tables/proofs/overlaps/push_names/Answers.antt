use Rattle.std.proofs.Common.{◌≤◌, length, arith, ◌++◌, ◌∙◌, ap}
use Rattle.page_report.specs.declared.animal.ReadAnimal.{ReadAnimal}
use Rattle.page_tables.specs.Lines.{behind_comma, name_cell}
use Rattle.page_tables.proofs.TableFacts.{names_behind, written}
use Rattle.page_tables.proofs.overlaps.push_names.Goals as goal

pub returns : goal.returns
returns c =
    let animals = c.args.report.now.animals.items in
    let ended : length animals ≤ c.loop-animal.animal-index = omega (arith, ap length c.deref-animal-items.ensures.value) in
    c.loop-animal.invariant
    ∙ ap (λ l. c.args.text.now.items ++ l)
    (written (λ (animal : ReadAnimal). behind_comma (name_cell animal.name.items)) animals c.loop-animal.animal-index ended ∙ names_behind animals)
