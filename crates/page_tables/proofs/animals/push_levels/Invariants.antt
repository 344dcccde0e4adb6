use Rattle.std.proofs.Common.{◌≡◌, ◌++◌, codes, decimal, flat_map, take}
use Rattle.page_tables.specs.Lines.{behind_comma}
use Rattle.page_tables.proofs.animals.push_levels.Given as goal

abbrev pub invariant-loop-own : goal.invariant-loop-own
invariant-loop-own l = l.text.items ≡ l.initial.text.items ++ flat_map (λ own. behind_comma (codes "hectares_" ++ decimal own.level)) (take l.own-index l.levels)
