use Rattle.std.proofs.Common.{◌++◌, ◌∙◌, ap, codes, decimal}
use Rattle.range_stats.specs.declared.percents.PercentRow.{PercentRow}
use Rattle.page_tables.specs.Lines.{behind_comma}
use Rattle.page_tables.proofs.TableFacts.{behind_of_map, written}
use Rattle.page_tables.proofs.animals.push_levels.Goals as goal

pub returns : goal.returns
returns c =
    let cell = λ (own : PercentRow). codes "hectares_" ++ decimal own.level in
    c.loop-own.invariant
    ∙ ap (λ l. c.args.text.now.items ++ l) (written (λ x. behind_comma (cell x)) c.args.levels.now c.loop-own.own-index c.loop-own-test.false ∙ behind_of_map cell c.args.levels.now)
