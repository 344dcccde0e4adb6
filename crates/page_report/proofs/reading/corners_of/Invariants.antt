use Rattle.std.proofs.Common.{◌≡◌, length}
use Rattle.page_report.specs.Reading.{parts, put, corners_of}
use Rattle.page_report.proofs.reading.corners_of.Given as goal

abbrev pub invariant-loop-line : goal.invariant-loop-line
invariant-loop-line l = corners_of l.name 0 (parts l.text) ≡ put l.corners.items (corners_of l.name (length l.corners.items) (parts l.rest))

abbrev pub decreases-loop-line : goal.decreases-loop-line
decreases-loop-line l = length l.rest
