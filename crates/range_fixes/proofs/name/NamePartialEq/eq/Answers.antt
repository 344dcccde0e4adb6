use Rattle.range_fixes.proofs.name.NamePartialEq.eq.Goals as goal

pub returns : goal.returns
returns c = cc
