use Rattle.std.proofs.Common.{◌≡◌, ◌-◌, length, map}
use Rattle.page_report.specs.Reading.{overlaps_from, parts, put}
use Rattle.page_report.proofs.overlaps.overlaps_of.Given as goal

abbrev pub invariant-loop-animal : goal.invariant-loop-animal
invariant-loop-animal l =
    overlaps_from (map (λ animal. animal.name.items) l.animals) (length l.animals) 0 (length l.animals) (parts l.text)
    ≡ put l.overlaps.items (overlaps_from (map (λ animal. animal.name.items) l.animals) (length l.animals) l.animal (length l.animals - l.animal) (parts l.rest))
