use Rattle.std.proofs.Common.{◌≡◌, length}
use Rattle.page_report.specs.Reading.{parts, put, rows_of}
use Rattle.page_report.proofs.reading.rows_of.Given as goal

abbrev pub invariant-loop-line : goal.invariant-loop-line
invariant-loop-line l = rows_of l.name 0 (parts l.text) ≡ put l.rows.items (rows_of l.name (length l.rows.items) (parts l.rest))

abbrev pub decreases-loop-line : goal.decreases-loop-line
decreases-loop-line l = length l.rest
