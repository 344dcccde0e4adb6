use Rattle.std.proofs.Common.{◌∙◌, sym}
use Rattle.std.proofs.lemmas.List.Folds.{list_any-append}
use Rattle.split_names.proofs.numbered.is_taken.Goals as goal

pub returns-then-is_among : goal.returns-then-is_among
returns-then-is_among c = let first = sym c.is_among.ensures ∙ c.if-is_among.true in rw (list_any-append, first) c.if-is_among.true

pub returns-else-is_among : goal.returns-else-is_among
returns-else-is_among c = let none = sym c.is_among.ensures ∙ c.if-is_among.false in rw (list_any-append, none) c.is_among-else-is_among.ensures
