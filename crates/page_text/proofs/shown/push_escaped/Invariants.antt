use Rattle.std.proofs.Common.{◌≡◌, ◌++◌, drop}
use Rattle.page_text.specs.Shown.{escaped, escaped_behind}
use Rattle.page_text.proofs.shown.push_escaped.Given as goal

abbrev pub invariant-loop-place : goal.invariant-loop-place
invariant-loop-place l = l.text.items ++ escaped_behind l.behind (drop l.place l.line) ≡ l.initial.text.items ++ escaped l.line
