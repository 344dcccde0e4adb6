use Rattle.range_command.proofs.RunSources.{appends_kept, on_err, on_ok, whole_prefix}
use Rattle.range_command.proofs.program.write_to_end.Goals as goal

pub returns-clause-whole : goal.returns-clause-whole
returns-clause-whole g c = on_ok c.or.result (appends_kept _ _ _ _ c.in_ok-write_text.ensures.whole c.finish.ensures.bytes)

pub returns-clause-prefix : goal.returns-clause-prefix
returns-clause-prefix g c = on_err c.or.result (whole_prefix _ _ _ (appends_kept _ _ _ _ c.in_ok-write_text.ensures.whole c.finish.ensures.bytes))
