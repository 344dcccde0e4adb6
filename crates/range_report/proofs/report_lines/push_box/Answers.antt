use Rattle.std.specs.Int.{w64}
use Rattle.std.specs.Prelude.{FitsSigned}
use Rattle.std.proofs.Common.{rules}
use Rattle.std.proofs.lemmas.Int.{to_z-of_z}
use Rattle.range_report.proofs.ListFacts.{five_parts}
use Rattle.range_report.proofs.report_lines.push_box.Goals as goal

pub returns : goal.returns
returns g c =
    let min_e : FitsSigned w64 c.args.extent.min_e = search rules in
    let min_n : FitsSigned w64 c.args.extent.min_n = search rules in
    let max_e : FitsSigned w64 c.args.extent.max_e = search rules in
    let max_n : FitsSigned w64 c.args.extent.max_n = search rules in
    let low = simp to_z-of_z at c.in_ok-push_point.ensures in
    let high = simp to_z-of_z at c.in_ok-push_point-2.ensures in
    five_parts _ _ _ _ _ _ _ _ _ _ _ c.in_ok-extend_from_slice.ensures.items c.in_ok-extend_from_slice-2.ensures.items low high
    c.in_ok-extend_from_slice-3.ensures.items
