use Rattle.std.proofs.Common.{codes, rules}
use Rattle.page_report.specs.Lines.{corner_of}
use Rattle.page_report.specs.Reading.{parts, corners_of}
use Rattle.page_report.proofs.Many.{line_more, line_refused, lines_end}
use Rattle.page_report.proofs.reading.corners_of.Goals as goal

pub returns-in_default-corner_of-clause-fault : goal.returns-in_default-corner_of-clause-fault
returns-in_default-corner_of-clause-fault c =
    line_refused (codes "corner,") (corner_of c.args.name.now) c.loop-line.corners.items (parts c.loop-line.rest.now) c.in-Some.line.now (parts c.in-Some.behind.now)
    (corners_of c.args.name.now 0 (parts c.args.text.now)) c.refused.result c.loop-line.invariant c.in-Some.ensures.line c.in-Some.ensures.more
    (search rules) c.refused.ensures

pub loop-line-preserved : goal.loop-line-preserved
loop-line-preserved c =
    line_more (codes "corner,") (corner_of c.args.name.now) c.loop-line.corners.items c.push.new.items.items (parts c.loop-line.rest.now) c.in-Some.line.now (parts c.in-Some.behind.now)
    (corners_of c.args.name.now 0 (parts c.args.text.now)) c.in-Some-corner_of.corner c.loop-line.invariant c.in-Some.ensures.line c.in-Some.ensures.more
    (search rules) (search rules)

pub returns-clause-found : goal.returns-clause-found
returns-clause-found c =
    lines_end (codes "corner,") (corner_of c.args.name.now) c.loop-line.corners.items (parts c.loop-line.rest.now)
    (corners_of c.args.name.now 0 (parts c.args.text.now)) c.loop-line.invariant (search rules)
