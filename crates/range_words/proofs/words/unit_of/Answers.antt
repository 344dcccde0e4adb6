use Rattle.std.proofs.Common.{rules}
use Rattle.range_words.proofs.words.unit_of.Goals as goal

pub returns-then-eq-2-clause-unit : goal.returns-then-eq-2-clause-unit
returns-then-eq-2-clause-unit c = search rules
