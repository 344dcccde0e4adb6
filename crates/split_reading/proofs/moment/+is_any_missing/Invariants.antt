use Rattle.std.proofs.Common.{length}
use Rattle.split_reading.proofs.moment.+is_any_missing.Given as goal

abbrev pub decreases-is_any_missing : goal.decreases-is_any_missing
decreases-is_any_missing l = length l.columns.now
