use Rattle.std.proofs.Common.{◌≡◌, ◌++◌, map}
use Rattle.std.specs.Vec.Iter.{into_iter_items}
use Rattle.range_analysis.proofs.analysis.into_animals.Given as goal

abbrev pub invariant-loop-one : goal.invariant-loop-one
invariant-loop-one l = l.animals.items ++ map (λ m. m.animal) (into_iter_items l.one-iterator) ≡ map (λ m. m.animal) l.fn.measured.items
