use Rattle.std.proofs.Common.{◌≡◌, ◌++◌, map, take}
use Rattle.split_record.specs.Lines.{left_line, text_of_all}
use Rattle.split_record.proofs.text.push_all_left.Given as goal

abbrev pub invariant-loop-one : goal.invariant-loop-one
invariant-loop-one g l = l.text.items ≡ l.initial.text.items ++ text_of_all (map left_line (take l.one-index l.left))
