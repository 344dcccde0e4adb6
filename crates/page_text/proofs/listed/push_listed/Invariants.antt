use Rattle.std.proofs.Common.{◌≡◌, ◌++◌, drop, map}
use Rattle.page_text.specs.Figures.{listed}
use Rattle.page_text.proofs.listed.push_listed.Given as goal

abbrev pub invariant-loop-place : goal.invariant-loop-place
invariant-loop-place l =
    l.text.items ++ listed (map (λ word. word.now) (drop l.place l.words)) ≡ l.initial.text.items ++ listed (map (λ word. word.now) l.words)
