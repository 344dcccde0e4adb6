use Rattle.std.specs.List.{flat_map}
use Rattle.std.specs.Vec.Iter.{into_iter_items}
use Rattle.range_run.proofs.Parted.{WritesBefore}
use Rattle.range_run.proofs.written_text.write_parts.Given as goal

abbrev pub invariant-loop-part : goal.invariant-loop-part
invariant-loop-part g l =
    let contents = g.W.Write.contents in
    WritesBefore (flat_map (λ part. part.items) (into_iter_items l.part-iterator)) (flat_map (λ part. part.items) l.fn.parts.items) (contents l.fn.out)
    (contents l.out)
