use Rattle.std.proofs.Common.{◌≡◌, ◌++◌}
use Rattle.std.specs.List.{flat_map}
use Rattle.std.specs.Vec.Iter.{into_iter_items}
use Rattle.range_report.proofs.report_text.push_texts.Given as goal

abbrev pub invariant-loop-part : goal.invariant-loop-part
invariant-loop-part g l = l.text.items ++ flat_map (λ part. part.items) (into_iter_items l.part-iterator) ≡ l.initial.text.items ++ flat_map
    (λ part. part.items) l.fn.texts.items
