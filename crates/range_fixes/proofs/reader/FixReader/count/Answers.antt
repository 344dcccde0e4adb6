use Rattle.std.proofs.Common.{rules}
use Rattle.range_fixes.proofs.reader.FixReader.count.Goals as goal

pub returns-clause-count : goal.returns-clause-count
returns-clause-count g c = search rules
