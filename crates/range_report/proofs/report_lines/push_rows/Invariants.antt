use Rattle.std.proofs.Common.{◌≡◌, ◌+◌, ◌++◌, take, IfSome, codes, decimal}
use Rattle.range_report.specs.Report.{row_head, row_line, row_tail, lines_from}
use Rattle.range_report.proofs.report_lines.push_rows.Given as goal

abbrev pub invariant-loop-i : goal.invariant-loop-i
invariant-loop-i g l = record {
  lines : l.text.items ≡ l.initial.text.items ++ lines_from (row_line l.name) (l.from + 1) (take l.i l.rows);
  start : l.start.items ≡ row_head l.name ++ decimal (l.from + l.i) ++ codes ",";
  tail : IfSome l.before (λ other. l.tail.items ≡ row_tail other);
}
