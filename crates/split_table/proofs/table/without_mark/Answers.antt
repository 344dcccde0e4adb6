use Rattle.std.proofs.Common.{◌∙◌, sym}
use Rattle.std.proofs.lemmas.List.{take_rest}
use Rattle.split_table.proofs.Marks.{without}
use Rattle.split_table.proofs.table.without_mark.Goals as goal

pub returns-then-has_mark : goal.returns-then-has_mark
returns-then-has_mark c = take_rest c.args.text.now 3 ∙ rw (sym c.has_mark.ensures ∙ c.if-has_mark.true) at (without c.args.text.now)

pub returns-else-has_mark : goal.returns-else-has_mark
returns-else-has_mark c = rw (sym c.has_mark.ensures ∙ c.if-has_mark.false) at (without c.args.text.now)
