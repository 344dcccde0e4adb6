use Rattle.std.proofs.Common.{rules}
use Rattle.range_fixes.proofs.checks.width.Goals as goal

pub returns-else-has_use : goal.returns-else-has_use
returns-else-has_use c = search rules
