use Rattle.std.proofs.Common.{◌≡◌, length}
use Rattle.page_report.specs.Reading.{parts, put, percents_of}
use Rattle.page_report.proofs.reading.percents_of.Given as goal

abbrev pub invariant-loop-line : goal.invariant-loop-line
invariant-loop-line l = percents_of l.name 0 (parts l.text) ≡ put l.percents.items (percents_of l.name (length l.percents.items) (parts l.rest))

abbrev pub decreases-loop-line : goal.decreases-loop-line
decreases-loop-line l = length l.rest
