use Rattle.std.proofs.Common.{◌++◌, ◌∙◌, ap}
use Rattle.page_report.specs.Reading.{read}
use Rattle.page_tables.specs.Animals.{level_cell}
use Rattle.page_tables.specs.Lines.{behind_comma}
use Rattle.page_tables.proofs.TableFacts.{behind_of_map, written}
use Rattle.page_tables.proofs.animals.push_level_cells.Goals as goal

pub returns : goal.returns
returns c =
    let cell = level_cell (read c.args.report.now) c.args.animal in
    c.loop-own.invariant
    ∙ ap (λ l. c.args.text.now.items ++ l) (written (λ x. behind_comma (cell x)) c.args.levels.now c.loop-own.own-index c.loop-own-test.false ∙ behind_of_map cell c.args.levels.now)
