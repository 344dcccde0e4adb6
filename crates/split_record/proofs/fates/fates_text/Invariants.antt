use Rattle.std.proofs.Common.{◌≡◌, ◌∷◌, map, take}
use Rattle.split_record.specs.Fates.{fate_lines, titles}
use Rattle.split_record.specs.Lines.{text_of_all}
use Rattle.split_record.proofs.fates.fates_text.Given as goal

abbrev pub invariant-loop-index : goal.invariant-loop-index
invariant-loop-index g l = l.text.items ≡ text_of_all (titles ∷ fate_lines (map (λ name. name.items) l.fn.names) 1 (take l.index l.fn.fates))
