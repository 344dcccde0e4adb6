use Rattle.std.proofs.Common.{arith}
use Rattle.page_map.proofs.Products.{threes_most, threes_some}
use Rattle.page_map.proofs.dots.threes.Goals as goal

pub returns-clause-some : goal.returns-clause-some
returns-clause-some c = rw c.pow.ensures (threes_some c.args.power)

pub returns-clause-most : goal.returns-clause-most
returns-clause-most c = rw c.pow.ensures (omega (arith, threes_most c.args.power c.requires))

pub pow-requires : goal.pow-requires
pow-requires c = omega (arith, threes_most c.args.power c.requires)
