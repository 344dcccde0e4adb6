use Rattle.std.proofs.Common.{◌≡◌, false, length, true, refl, inr, rules}
use Rattle.page_report.specs.Reading.{ended, is_nothing, last_of, one, parts}
use Rattle.page_report.proofs.Refusals.{first_refused, passed_on, then_found, then_refused}
use Rattle.page_report.proofs.report.end_behind.Goals as goal

pub returns-in_err-behind-clause-fault : goal.returns-in_err-behind-clause-fault
unfolding ended
returns-in_err-behind-clause-fault c =
    passed_on _ c.from_residual.result c.in_err-behind.field-0.0 (search rules)
    (first_refused (one (last_of c.args.animals) (parts c.args.text.now)) _ c.in_err-behind.field-0.0 (search rules))

pub returns-in-Ok-clause-found : goal.returns-in-Ok-clause-found
unfolding ended
returns-in-Ok-clause-found c =
    let nothing : is_nothing (parts c.in_ok-behind.behind.now) ≡ true = search (rules) in
    then_found (one (last_of c.args.animals) (parts c.args.text.now)) _ c.args.animals (parts c.in_ok-behind.behind.now) _ (search rules) (rw nothing refl)

pub returns-in-Err-clause-fault : goal.returns-in-Err-clause-fault
unfolding ended
returns-in-Err-clause-fault c =
    let more : is_nothing (parts c.in_ok-behind.behind.now) ≡ false = search (rules) in
    then_refused (one (last_of c.args.animals) (parts c.args.text.now)) _ c.args.animals (parts c.in_ok-behind.behind.now) c.in-Err.fault (search rules)
    (rw more (inr (length (parts c.in_ok-behind.behind.now), refl, search rules)))
