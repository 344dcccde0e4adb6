use Rattle.range_report.proofs.ListFacts.{seven_parts}
use Rattle.range_report.proofs.report_lines.push_percent.Goals as goal

pub returns : goal.returns
returns g c =
    seven_parts _ _ _ _ _ _ _ _ _ _ _ _ _ _ _ c.in_ok-extend_from_slice.ensures.items c.in_ok-extend_from_slice-2.ensures.items c.in_ok-push_field.ensures
    c.in_ok-push_field-2.ensures c.in_ok-push_field-3.ensures c.in_ok-push_area.ensures c.in_ok-extend_from_slice-3.ensures.items
