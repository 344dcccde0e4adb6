use Rattle.std.proofs.Common.{rules}
use Rattle.range_command.proofs.program.write_reply.Goals as goal

pub returns-then-is_ok-clause-text : goal.returns-then-is_ok-clause-text
returns-then-is_ok-clause-text g c = search rules
