use Rattle.std.proofs.Common.{rules}
use Rattle.range_fixes.proofs.reader.FixReader.name.Goals as goal

pub returns-clause-name : goal.returns-clause-name
returns-clause-name g c = search rules

pub returns-clause-given : goal.returns-clause-given
returns-clause-given g c = search rules
