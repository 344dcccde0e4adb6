use Rattle.range_run.proofs.Parted.{flushed}
use Rattle.range_run.proofs.written_text.write_text.Goals as goal

pub returns-clause-prefix : goal.returns-clause-prefix
returns-clause-prefix g c = flushed _ _ _ _ _ c.in_ok-write_whole.ensures.whole c.flush.ensures.bytes
