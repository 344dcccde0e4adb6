use Rattle.std.proofs.Common.{◌≡◌, ◌-◌, length, map}
use Rattle.page_report.specs.Reading.{animals_from, animals_of, parts, put, said}
use Rattle.page_report.proofs.animal.animals_of.Given as goal

abbrev pub invariant-loop-animal : goal.invariant-loop-animal
invariant-loop-animal l = animals_of l.text ≡ put (map said l.animals.items) (animals_from (length l.text - l._animal) (parts l.rest))
