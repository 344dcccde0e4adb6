use Rattle.std.proofs.Common.{sym, ◌∙◌}
use Rattle.page_tables.proofs.NumberFacts.{small_all, small_more}
use Rattle.page_tables.proofs.numbers.+push_small.Goals as goal

pub returns-then-has_zero : goal.returns-then-has_zero
returns-then-has_zero t c =
    rw (small_more c.args.places c.args.number (sym c.has_zero.ensures ∙ c.if-has_zero.true)) c.push_small.ensures

pub returns : goal.returns
returns t c =
    rw (small_all c.args.places c.args.number (sym c.has_zero.ensures ∙ c.if-has_zero.false)) c.push_in_powers.ensures
