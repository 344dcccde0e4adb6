use Rattle.std.proofs.Common.{rules}
use Rattle.range_cover.proofs.addition.add_point.Goals as goal

pub returns-then-covered-clause-inserted : goal.returns-then-covered-clause-inserted
returns-then-covered-clause-inserted g c = search rules

pub returns-then-covered-clause-covered : goal.returns-then-covered-clause-covered
returns-then-covered-clause-covered g c = search rules

pub skip-requires-clause-covered : goal.skip-requires-clause-covered
skip-requires-clause-covered g c = search rules
