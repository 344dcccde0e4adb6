use Rattle.std.proofs.Common.{◌≡◌, ◌<◌, arith, sym, ◌∙◌}
use Rattle.page_tables.proofs.DoubleFacts.{doubled_full, doubled_more, doubled_none}
use Rattle.page_tables.proofs.doubles.+doubled.Goals as goal

pub returns-then-more-eq0-clause-value : goal.returns-then-more-eq0-clause-value
returns-then-more-eq0-clause-value t c =
    let none : c.args.more ≡ 0 = omega arith in
    sym (doubled_none c.args.more c.args.part c.args.whole c.args.power none)

pub returns-then-is_full-clause-value : goal.returns-then-is_full-clause-value
returns-then-is_full-clause-value t c =
    sym (doubled_full c.args.more c.args.part c.args.whole c.args.power (sym c.is_full.ensures ∙ c.if-is_full.true))

pub returns-clause-value : goal.returns-clause-value
returns-clause-value t c =
    let some : 0 < c.args.more = omega arith in
    c.doubled.ensures.value ∙ sym (doubled_more c.args.more c.args.part c.args.whole c.args.power some (sym c.is_full.ensures ∙ c.if-is_full.false))
