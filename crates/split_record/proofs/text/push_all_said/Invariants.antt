use Rattle.std.proofs.Common.{◌≡◌, ◌++◌, map, take}
use Rattle.split_record.specs.Lines.{said_line, text_of_all}
use Rattle.split_record.proofs.text.push_all_said.Given as goal

abbrev pub invariant-loop-line : goal.invariant-loop-line
invariant-loop-line g l = l.text.items ≡ l.initial.text.items ++ text_of_all (map (λ line. said_line line.now) (take l.line-index l.said))
