use Rattle.std.proofs.Common.{rules}
use Rattle.range_fixes.proofs.checks.check_animal.Goals as goal

pub returns : goal.returns
returns c = search rules
