use Rattle.split_numbers.specs.Decimal.{trillionths_in}
use Rattle.split_numbers.proofs.decimal.trillionths.Goals as goal

pub returns : goal.returns
unfolding trillionths_in
returns c = c.measured_in.ensures
