use Rattle.std.proofs.Common.{length}
use Rattle.split_reading.proofs.told.+first_filled.Given as goal

abbrev pub decreases-first_filled : goal.decreases-first_filled
decreases-first_filled l = length l.columns.now
