use Rattle.std.proofs.Common.{◌≡◌, ◌++◌, drop, option_map}
use Rattle.page_record.specs.Unescaped.{unescaped, unescaped_behind}
use Rattle.page_record.proofs.unescaped.unescaped.Given as goal

abbrev pub invariant-loop-place : goal.invariant-loop-place
invariant-loop-place l = option_map (λ more. l.own.items ++ more) (unescaped_behind l.behind (drop l.place l.text)) ≡ unescaped l.text
