use Rattle.std.proofs.Common.{◌≡◌, ◌++◌, ◌*◌}
use Rattle.std.specs.List.{flat_map, range_with_len}
use Rattle.range_report.specs.Parts.{part_lines, part_text, text_of}
use Rattle.range_report.proofs.parts.push_numbered.Given as goal

abbrev pub invariant-loop-i : goal.invariant-loop-i
invariant-loop-i g l =
    flat_map text_of l.parts.items
    ≡ flat_map text_of l.initial.parts.items
    ++ flat_map (λ i. part_text l.lines (i * part_lines) l.animal) (range_with_len 0 l.i)
