use Rattle.std.proofs.Common.{append_assoc, rules}
use Rattle.range_report.proofs.report_text.part_text.Goals as goal
use Rattle.range_report.proofs.report_text.part_text.Goals.{in-Head+in_ok-push_head-in-Head+in_ok-push_box-in-Head, in-Rows+in_ok-push_rows-in-Rows}
use Rattle.range_report.proofs.report_text.part_text.Goals.{in-Corners+in_ok-push_corners-in-Corners, in-Percents+in_ok-push_percents-in-Percents}

pub returns : goal.returns
returns g c = elim c.match-lines.branch [
  | in-Head+in_ok-push_head-in-Head+in_ok-push_box-in-Head w ↦ search (rules, append_assoc)
  | in-Rows+in_ok-push_rows-in-Rows w ↦ search rules
  | in-Corners+in_ok-push_corners-in-Corners w ↦ search rules
  | in-Percents+in_ok-push_percents-in-Percents w ↦ search rules
]
