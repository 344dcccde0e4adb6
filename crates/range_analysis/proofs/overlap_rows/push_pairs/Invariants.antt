use Rattle.std.proofs.Common.{◌≡◌, ◌++◌, map}
use Rattle.range_analysis.specs.Animals.{other_animals}
use Rattle.range_analysis.proofs.overlap_rows.push_pairs.Given as goal

abbrev pub invariant-loop-range : goal.invariant-loop-range
invariant-loop-range l = l.pairs.items ≡ l.initial.pairs.items ++ map (λ range. (l.animal, range)) (other_animals l.range l.animal)
