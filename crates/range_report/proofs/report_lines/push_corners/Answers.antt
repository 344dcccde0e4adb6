use Rattle.range_report.specs.Report.{corner_line}
use Rattle.range_report.proofs.NumberedLines.{lines_more}
use Rattle.range_report.proofs.report_lines.push_corners.Goals as goal

pub loop-i-preserved : goal.loop-i-preserved
loop-i-preserved g c =
    lines_more (corner_line c.args.name.now) c.args.text.now.items c.loop-i.text.items c.push_corner.new.text.items c.args.corners.now c.args.from c.loop-i.i
    c.index-corners-i.result c.index-corners-i.result c.loop-i-test.true c.index-corners-i.is c.loop-i.invariant c.in_ok-push_corner.ensures
