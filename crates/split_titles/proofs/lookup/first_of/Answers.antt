use Rattle.std.proofs.Common.{length}
use Rattle.split_titles.proofs.lookup.first_of.Goals as goal

pub loop-title-preserved : goal.loop-title-preserved
loop-title-preserved c = c.earlier-found.ensures (length c.args.titles.now) c.loop-title.invariant c.in_ok-usual.ensures
