use Rattle.std.proofs.Common.{length}
use Rattle.split_times.proofs.signs.+signs_of.Given as goal

abbrev pub decreases-signs_of : goal.decreases-signs_of
decreases-signs_of l = length l.form.now
