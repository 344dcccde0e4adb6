use Rattle.range_fixes.proofs.checks.used_in.Goals as goal

pub returns-in_default : goal.returns-in_default
returns-in_default c = cc
