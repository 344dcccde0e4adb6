use Rattle.std.proofs.Common.{◌≡◌, ◌++◌, take}
use Rattle.std.specs.List.{flat_map}
use Rattle.range_report.specs.Report.{percent_line}
use Rattle.range_report.proofs.report_lines.push_percents.Given as goal

abbrev pub invariant-loop-row : goal.invariant-loop-row
invariant-loop-row g l = l.text.items ≡ l.initial.text.items ++ flat_map (percent_line l.name) (take l.row-index l.rows)
