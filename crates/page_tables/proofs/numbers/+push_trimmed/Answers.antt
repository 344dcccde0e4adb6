use Rattle.std.proofs.Common.{sym, ◌∙◌}
use Rattle.page_tables.proofs.NumberFacts.{trimmed_all, trimmed_more}
use Rattle.page_tables.proofs.numbers.+push_trimmed.Goals as goal

pub returns-then-has_zero : goal.returns-then-has_zero
returns-then-has_zero t c =
    rw (trimmed_more c.args.places c.args.number (sym c.has_zero.ensures ∙ c.if-has_zero.true)) c.push_trimmed.ensures

pub returns-else-has_zero : goal.returns-else-has_zero
returns-else-has_zero t c =
    rw (trimmed_all c.args.places c.args.number (sym c.has_zero.ensures ∙ c.if-has_zero.false)) c.push_padded.ensures
