use Rattle.std.proofs.Common.{◌≡◌, IfErr, IfOk, Ok, map, refl, sym, subst, rules}
use Rattle.page_report.specs.Reading.{IsRefusal, animals_of, parts, read, report_in, said}
use Rattle.page_report.proofs.Refusals.{first_refused, passed_on, then_found}
use Rattle.page_report.proofs.report.report_in.Goals as goal

pub returns-in_err-animals-clause-fault : goal.returns-in_err-animals-clause-fault
unfolding report_in
returns-in_err-animals-clause-fault c =
    passed_on _ c.from_residual.result c.in_err-animals.field-0.0 (search rules)
    (first_refused (animals_of c.args.text.now) _ c.in_err-animals.field-0.0 (search rules))

pub returns-clause-found : goal.returns-clause-found
unfolding report_in
returns-clause-found c =
    subst (λ found. IfOk c.report_with.result (λ own. found ≡ Ok (read own.0, parts own.1.now)))
    (sym (then_found (animals_of c.args.text.now) _ (map said c.in_ok-animals.animals.items) (parts c.in_ok-animals.rest.now) _ (search rules) refl))
    c.report_with.ensures.found

pub returns-clause-fault : goal.returns-clause-fault
unfolding report_in
returns-clause-fault c =
    subst (λ found. IfErr c.report_with.result (IsRefusal found))
    (sym (then_found (animals_of c.args.text.now) _ (map said c.in_ok-animals.animals.items) (parts c.in_ok-animals.rest.now) _ (search rules) refl))
    c.report_with.ensures.fault
