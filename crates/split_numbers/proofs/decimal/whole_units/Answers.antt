use Rattle.split_numbers.specs.Decimal.{units_in}
use Rattle.split_numbers.proofs.decimal.whole_units.Goals as goal

pub returns : goal.returns
unfolding units_in
returns c = c.measured_in.ensures
