use Rattle.std.proofs.Common.{rules}
use Rattle.range_command.proofs.Sayings.{told_or_failed}
use Rattle.range_command.proofs.exit_status.say.Goals as goal

pub returns : goal.returns
returns g c =
    told_or_failed c.args.refusal.now c.whole_line-line.result c.line_told.result.now _ _ _ c.write_whole.result c.whole_line-line.ensures c.line_told.ensures.whole
    c.line_told.ensures.short (search rules) (search rules) c.write_whole.ensures.failed
