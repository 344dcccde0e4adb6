use Rattle.std.proofs.Common.{inl, inr, map, string_bytes, rules}
use Rattle.range_command.proofs.Sayings.{said_in_one, said_or_left, system_in_one}
use Rattle.range_command.proofs.exit_status.answer.Goals as goal

pub returns-in-Ok-clause-refused : goal.returns-in-Ok-clause-refused
returns-in-Ok-clause-refused g c refused =
    let (refusal, status, told, said) = c.answer_to.ensures.refused refused in
    (refusal, status, inr (map string_bytes c.as_slice.result.now, told), said)

pub returns-in-Err-clause-refused : goal.returns-in-Err-clause-refused
returns-in-Err-clause-refused g c refused =
    let said = said_or_left _ g.X.Outlet.contents g.X.Outlet.last_failure c.in-Err.refusal _ _ c.failure.result c.has_left.result (search rules)
    c.has_left.ensures.left c.has_left.ensures.there c.tell.ensures.left c.tell.ensures.line in
    (c.in-Err.refusal, c.tell.ensures.status, inl c.in-Err.ensures, said)

pub returns-in-Err-clause-one_line : goal.returns-in-Err-clause-one_line
returns-in-Err-clause-one_line g c refused =
    let alone = system_in_one c.in-Err.refusal c.in-Err.ensures in
    let said = said_or_left _ g.X.Outlet.contents g.X.Outlet.last_failure c.in-Err.refusal _ _ c.failure.result c.has_left.result (search rules)
    c.has_left.ensures.left c.has_left.ensures.there c.tell.ensures.left c.tell.ensures.line in
    said_in_one _ g.X.Outlet.contents g.X.Outlet.last_failure c.in-Err.refusal _ _ alone said
