use Rattle.std.proofs.Common.{◌≤◌, length, arith, ◌++◌, ◌∙◌, ap}
use Rattle.range_stats.specs.declared.percents.PercentRow.{PercentRow}
use Rattle.page_report.specs.Reading.{said}
use Rattle.page_tables.specs.Lines.{line}
use Rattle.page_tables.specs.Summary.{summary_cells}
use Rattle.page_tables.proofs.TableFacts.{table_of_map, written}
use Rattle.page_tables.proofs.summary.push_animal.Goals as goal

pub returns : goal.returns
returns c =
    let cells = λ (percent : PercentRow). summary_cells c.args.dated c.args.unit (said c.args.animal.now) percent in
    let percents = c.args.animal.now.percents.items in
    let ended : length percents ≤ c.loop-percent.percent-index = omega (arith, ap length c.deref-percent-items.ensures.value) in
    c.loop-percent.invariant
    ∙ ap (λ l. c.args.text.now.items ++ l) (written (λ percent. line (cells percent)) percents c.loop-percent.percent-index ended ∙ table_of_map cells percents)
