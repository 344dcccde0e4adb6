use Rattle.page_map.proofs.Products.{twos_most}
use Rattle.page_map.proofs.dots.twos.Goals as goal

pub returns : goal.returns
returns c = rw c.pow.ensures (twos_most c.args.power c.requires)
