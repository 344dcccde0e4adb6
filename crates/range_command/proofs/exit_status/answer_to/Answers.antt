use Rattle.std.proofs.Common.{map, string_bytes, rules}
use Rattle.range_command.specs.Command.{world}
use Rattle.range_command.proofs.Sayings.{said_in_one, said_or_left, told_in_one}
use Rattle.range_command.proofs.exit_status.answer_to.Goals as goal

pub returns-in-Err-clause-begun : goal.returns-in-Err-clause-begun
returns-in-Err-clause-begun g c status = c.in-Err.ensures.begun (search rules)

pub returns-in-Err-clause-refused : goal.returns-in-Err-clause-refused
returns-in-Err-clause-refused g c refused =
    let said = said_or_left _ g.X.Outlet.contents g.X.Outlet.last_failure c.in-Err.refusal _ _ c.failure.result c.has_left.result (search rules)
    c.has_left.ensures.left c.has_left.ensures.there c.tell.ensures.left c.tell.ensures.line in
    (c.in-Err.refusal, c.tell.ensures.status, c.in-Err.ensures.told, said)

pub returns-in-Err-clause-one_line : goal.returns-in-Err-clause-one_line
returns-in-Err-clause-one_line g c refused =
    let there = world (g.S.Read.remaining c.args.input) (g.O.Opener.finds c.args.opener.now) in
    let alone = told_in_one (map string_bytes c.args.words.now) there c.in-Err.refusal c.in-Err.ensures.told in
    let said = said_or_left _ g.X.Outlet.contents g.X.Outlet.last_failure c.in-Err.refusal _ _ c.failure.result c.has_left.result (search rules)
    c.has_left.ensures.left c.has_left.ensures.there c.tell.ensures.left c.tell.ensures.line in
    said_in_one _ g.X.Outlet.contents g.X.Outlet.last_failure c.in-Err.refusal _ _ alone said
