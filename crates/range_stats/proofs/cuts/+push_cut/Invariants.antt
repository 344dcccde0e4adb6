use Rattle.std.proofs.Common.{length}
use Rattle.range_stats.proofs.cuts.+push_cut.Given as goal

abbrev pub decreases-push_cut : goal.decreases-push_cut
decreases-push_cut g l = length l.keys.now
