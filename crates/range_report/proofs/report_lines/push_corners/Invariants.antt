use Rattle.std.proofs.Common.{◌≡◌, ◌+◌, ◌++◌, take}
use Rattle.range_report.specs.Report.{corner_line, lines_from}
use Rattle.range_report.proofs.report_lines.push_corners.Given as goal

abbrev pub invariant-loop-i : goal.invariant-loop-i
invariant-loop-i g l = l.text.items ≡ l.initial.text.items ++ lines_from (corner_line l.name) (l.from + 1) (take l.i l.corners)
