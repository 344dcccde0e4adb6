use Rattle.std.proofs.Common.{◌≡◌, ◌++◌, map, take}
use Rattle.std.specs.List.{flat_map}
use Rattle.range_report.specs.Report.{overlap_line}
use Rattle.range_report.proofs.report_lines.push_overlaps.Given as goal

abbrev pub invariant-loop-row : goal.invariant-loop-row
invariant-loop-row g l = l.text.items ≡ l.initial.text.items ++ flat_map (overlap_line (map (λ a. a.name) l.animals)) (take l.row-index l.rows)
