use Rattle.std.proofs.Common.{rules, tests, ◌∙◌, ◌==◌}
use Rattle.std.proofs.lemmas.Iterator.{YieldsList-from_slice}
use Rattle.std.proofs.lemmas.Iterator.Search.{find_from_yields_List}
use Rattle.range_stats.specs.declared.percents.PercentRow.{PercentRow}
use Rattle.page_facts.proofs.facts.at_level.Goals as goal

pub returns : goal.returns
returns c =
    c.copied.ensures
    ∙ find_from_yields_List (λ (own : PercentRow). own.level == c.args.level) _ _ c.find.result c.find.ensures.ran
    (YieldsList-from_slice c.args.animal.now.percents.items cc) (λ x b q k. search (rules, tests))
