use Rattle.std.proofs.Common.{◌+◌, ap, arith}
use Rattle.range_hull.specs.Tally.{Count}
use Rattle.range_hull.proofs.tally.Tally.bend.Goals as goal

pub returns-clause-counted : goal.returns-clause-counted
returns-clause-counted c = ap (λ (k : Count). record k { turns = k.turns + 1 }) c.self.view_is

pub returns-clause-room : goal.returns-clause-room
returns-clause-room c = omega arith
