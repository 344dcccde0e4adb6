use Rattle.std.proofs.Common.{◌+◌, ◌*◌, length}
use Rattle.split_times.proofs.form.+said.Given as goal

abbrev pub decreases-said : goal.decreases-said
decreases-said l = 2 * length l.form.now

abbrev pub decreases-said_behind : goal.decreases-said_behind
decreases-said_behind l = 2 * length l.form.now + 1
