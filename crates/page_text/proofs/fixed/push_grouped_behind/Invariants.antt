use Rattle.std.proofs.Common.{◌≡◌, ◌++◌, drop}
use Rattle.page_text.specs.Figures.{grouped_behind}
use Rattle.page_text.proofs.fixed.push_grouped_behind.Given as goal

abbrev pub invariant-loop-place : goal.invariant-loop-place
invariant-loop-place l = l.text.items ++ grouped_behind (drop l.place l.digits) ≡ l.initial.text.items ++ grouped_behind l.digits
