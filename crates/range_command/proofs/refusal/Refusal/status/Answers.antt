use Rattle.std.proofs.Common.{rules}
use Rattle.range_command.proofs.refusal.Refusal.status.Goals as goal

pub returns-in-NotText : goal.returns-in-NotText
returns-in-NotText c = search rules

pub returns-in-NotText-2 : goal.returns-in-NotText-2
returns-in-NotText-2 c = search rules
