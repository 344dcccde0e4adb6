use Rattle.std.proofs.Common.{◌≡◌, ◌++◌, codes, flat_map, take}
use Rattle.page_tables.specs.Lines.{behind_comma}
use Rattle.page_tables.proofs.animals.push_reasons.Given as goal

abbrev pub invariant-loop-reason : goal.invariant-loop-reason
invariant-loop-reason l = l.text.items ≡ l.initial.text.items ++ flat_map (λ reason. behind_comma (codes "left_" ++ reason.now)) (take l.reason-index l.reasons)
