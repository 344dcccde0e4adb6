use Rattle.std.proofs.Common.{length}
use Rattle.split_reading.proofs.moment.+push_texts.Given as goal

abbrev pub decreases-push_texts : goal.decreases-push_texts
decreases-push_texts l = length l.columns.now
