use Rattle.std.proofs.Common.{◌∙◌, length, map, refl, sym, subst, rules}
use Rattle.page_report.specs.Reading.{IsRefusal, ended, overlaps_from, parts}
use Rattle.page_report.proofs.Refusals.{first_refused, passed_on, then_found, then_refused}
use Rattle.page_report.proofs.Reports.{same_report}
use Rattle.page_report.proofs.report.report_with.Goals as goal

pub returns-in_err-overlaps-clause-fault : goal.returns-in_err-overlaps-clause-fault
returns-in_err-overlaps-clause-fault c =
    let xs = c.args.animals.items in
    let fault = c.in_err-overlaps.field-0.0 in
    passed_on _ c.from_residual.result fault (search rules)
    (subst (λ found. IsRefusal found fault) (same_report c.args.unit xs (parts c.args.text.now))
    (first_refused (overlaps_from (map (λ animal. animal.name.items) xs) (length xs) 0 (length xs) (parts c.args.text.now)) _ fault (search rules)))

pub returns-in_err-behind-clause-fault : goal.returns-in_err-behind-clause-fault
returns-in_err-behind-clause-fault c =
    let xs = c.args.animals.items in
    let fault = c.in_err-behind.field-0.0 in
    passed_on _ c.from_residual-in_err-behind.result fault (search rules)
    (subst (λ found. IsRefusal found fault) (same_report c.args.unit xs (parts c.args.text.now))
    (then_refused (overlaps_from (map (λ animal. animal.name.items) xs) (length xs) 0 (length xs) (parts c.args.text.now)) _
    c.in_ok-overlaps.overlaps.items (parts c.in_ok-overlaps.rest.now) fault (search rules)
    (first_refused (ended (length xs) (parts c.in_ok-overlaps.rest.now)) _ fault (search rules))))

pub returns-clause-found : goal.returns-clause-found
returns-clause-found c =
    let xs = c.args.animals.items in
    sym (same_report c.args.unit xs (parts c.args.text.now))
    ∙ then_found (overlaps_from (map (λ animal. animal.name.items) xs) (length xs) 0 (length xs) (parts c.args.text.now)) _
    c.in_ok-overlaps.overlaps.items (parts c.in_ok-overlaps.rest.now) _ (search rules)
    (then_found (ended (length xs) (parts c.in_ok-overlaps.rest.now)) _ (length xs) (parts c.in_ok-behind.behind.now) _ (search rules) refl)
