use Rattle.std.proofs.Common.{◌++◌, ◌∙◌, ap, decimal}
use Rattle.page_tables.specs.Lines.{behind_comma}
use Rattle.page_tables.proofs.TableFacts.{behind_of_map, written}
use Rattle.page_tables.proofs.animals.push_left_cells.Goals as goal

pub returns : goal.returns
returns c =
    let cell = decimal in
    c.loop-count.invariant
    ∙ ap (λ l. c.args.text.now.items ++ l) (written (λ x. behind_comma (cell x)) c.args.left.now c.loop-count.count-index c.loop-count-test.false ∙ behind_of_map cell c.args.left.now)
