use Rattle.range_fixes.proofs.name.Name.as_slice.Goals as goal

pub returns : goal.returns
returns c = cc
