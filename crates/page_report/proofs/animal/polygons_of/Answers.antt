use Rattle.std.proofs.Common.{refl, rules}
use Rattle.page_report.specs.Reading.{corners_of, parts, percents_of, polygons_of}
use Rattle.page_report.proofs.Refusals.{first_refused, passed_on, then_found, then_refused}
use Rattle.page_report.proofs.animal.polygons_of.Goals as goal

pub returns-in_err-corners-clause-fault : goal.returns-in_err-corners-clause-fault
unfolding polygons_of
returns-in_err-corners-clause-fault c =
    passed_on _ c.from_residual.result c.in_err-corners.field-0.0 (search rules)
    (first_refused (corners_of c.args.name.items 0 (parts c.args.text.now)) _ c.in_err-corners.field-0.0 (search rules))

pub returns-in_err-percents-clause-fault : goal.returns-in_err-percents-clause-fault
unfolding polygons_of
returns-in_err-percents-clause-fault c =
    passed_on _ c.from_residual-in_err-percents.result c.in_err-percents.field-0.0 (search rules)
    (then_refused (corners_of c.args.name.items 0 (parts c.args.text.now)) _ c.in_ok-corners.corners.items (parts c.in_ok-corners.rest.now)
    c.in_err-percents.field-0.0 (search rules)
    (first_refused (percents_of c.args.name.items 0 (parts c.in_ok-corners.rest.now)) _ c.in_err-percents.field-0.0 (search rules)))

pub returns-clause-found : goal.returns-clause-found
unfolding polygons_of
returns-clause-found c =
    then_found (corners_of c.args.name.items 0 (parts c.args.text.now)) _ c.in_ok-corners.corners.items (parts c.in_ok-corners.rest.now) _ (search rules)
    (then_found (percents_of c.args.name.items 0 (parts c.in_ok-corners.rest.now)) _ c.in_ok-percents.percents.items (parts c.in_ok-percents.rest.now) _
    (search rules) refl)
