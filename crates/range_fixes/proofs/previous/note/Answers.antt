use Rattle.std.proofs.Common.{rules}
use Rattle.range_fixes.proofs.previous.note.Goals as goal

pub returns-in-Some-clause-ok : goal.returns-in-Some-clause-ok
returns-in-Some-clause-ok c = search rules
