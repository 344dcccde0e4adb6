use Rattle.range_numbers.proofs.Small.{small_lanes}
use Rattle.range_numbers.proofs.groups.are_small.Goals as goal

pub returns : goal.returns
returns c = small_lanes c.args.first c.args.last c.fits-first.0 c.fits-last.0
