use Rattle.std.proofs.Common.{length}
use Rattle.split_times.proofs.forms.+first_time.Given as goal

abbrev pub decreases-first_time : goal.decreases-first_time
decreases-first_time l = length l.forms.now
