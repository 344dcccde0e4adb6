use Rattle.std.proofs.Common.{◌≡◌, ◌++◌}
use Rattle.std.specs.List.{flat_map}
use Rattle.std.specs.Vec.Iter.{into_iter_items}
use Rattle.range_report.specs.Report.{animal_text}
use Rattle.range_report.proofs.report_text.push_animals.Given as goal

abbrev pub invariant-loop-animal : goal.invariant-loop-animal
invariant-loop-animal g l =
    flat_map (λ text. text.items) l.texts.items ++ flat_map animal_text l.round.items ++ flat_map animal_text (into_iter_items l.animal-iterator)
    ≡ flat_map (λ text. text.items) l.initial.texts.items ++ flat_map animal_text l.fn.animals.items
