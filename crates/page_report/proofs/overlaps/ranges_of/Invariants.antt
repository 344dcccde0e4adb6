use Rattle.std.proofs.Common.{◌≡◌, ◌-◌, length, map}
use Rattle.page_report.specs.Reading.{parts, put, ranges_from}
use Rattle.page_report.proofs.overlaps.ranges_of.Given as goal

abbrev pub invariant-loop-range : goal.invariant-loop-range
invariant-loop-range l =
    ranges_from (map (λ animal. animal.name.items) l.animals) l.animal 0 (length l.animals) (parts l.text)
    ≡ put l.overlaps.items (ranges_from (map (λ animal. animal.name.items) l.animals) l.animal l.range (length l.animals - l.range) (parts l.rest))
