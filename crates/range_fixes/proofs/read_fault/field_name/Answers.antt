use Rattle.std.proofs.Common.{rules}
use Rattle.range_fixes.proofs.read_fault.field_name.Goals as goal

pub returns-in-2 : goal.returns-in-2
returns-in-2 c = search rules
