use Rattle.std.proofs.Common.{rules}
use Rattle.range_fixes.proofs.checks.is_earlier.Goals as goal

pub returns-in-Some : goal.returns-in-Some
returns-in-Some c = search rules
