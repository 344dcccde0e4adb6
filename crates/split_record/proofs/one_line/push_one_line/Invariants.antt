use Rattle.std.proofs.Common.{◌≡◌, ◌++◌, drop}
use Rattle.split_record.specs.OneLine.{one_line, one_line_behind}
use Rattle.split_record.proofs.one_line.push_one_line.Given as goal

abbrev pub invariant-loop-place : goal.invariant-loop-place
invariant-loop-place g l = l.text.items ++ one_line_behind l.behind (drop l.place l.line) ≡ l.initial.text.items ++ one_line l.line
