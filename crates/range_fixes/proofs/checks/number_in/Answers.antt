use Rattle.std.proofs.Common.{rules}
use Rattle.range_fixes.proofs.checks.number_in.Goals as goal

pub returns-then-value-limit : goal.returns-then-value-limit
returns-then-value-limit c = search rules
