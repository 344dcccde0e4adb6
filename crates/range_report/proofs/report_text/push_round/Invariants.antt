use Rattle.std.proofs.Common.{◌≡◌, ◌++◌}
use Rattle.std.specs.List.{flat_map}
use Rattle.std.specs.Vec.Iter.{into_iter_items}
use Rattle.range_report.specs.Report.{animal_text}
use Rattle.range_report.proofs.report_text.push_round.Given as goal

abbrev pub invariant-loop-text : goal.invariant-loop-text
invariant-loop-text g l =
    flat_map (λ text. text.items) l.texts.items ++ flat_map (λ text. text.items) (into_iter_items l.text-iterator)
    ≡ flat_map (λ text. text.items) l.fn.texts.items ++ flat_map animal_text l.fn.animals
