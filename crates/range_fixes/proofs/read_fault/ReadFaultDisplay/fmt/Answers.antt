use Rattle.std.proofs.Common.{rules}
use Rattle.range_fixes.proofs.read_fault.ReadFaultDisplay.fmt.Goals as goal

pub returns-clause-writes : goal.returns-clause-writes
returns-clause-writes g c = search rules
