use Rattle.std.proofs.Common.{sym, ◌∙◌}
use Rattle.range_collect.proofs.file_results.followed.Goals as goal

pub invariant_of-result : goal.invariant_of-result
invariant_of-result g c =
    let known = c.requires.result in
    let closed = sym c.closed-marked.ensures.value in
    record { result = record { marked = λ is. closed ∙ is; gone = known.gone; some = λ read is running. known.some read (closed ∙ is) running } }

pub returns-clause-seen : goal.returns-clause-seen
returns-clause-seen g c = record { marked = c.closed-marked.ensures.value; own = c.closed-marked.ensures.own; lawful = c.closed-marked.ensures.lawful }
