use Rattle.std.proofs.Common.{◌≡◌, ◌≤◌, map, take, Some, arith, sym, ap, subst, ◌∙◌}
use Rattle.range_options.specs.Limits.{level_count_limit}
use Rattle.range_words.specs.LevelList.{level_in, parts}
use Rattle.range_words.proofs.LevelParts.{as_many, levels_in_range, no_memory, some_part}
use Rattle.range_words.proofs.level.levels.Goals as goal

pub returns-in-Err-clause-refused : goal.returns-in-Err-clause-refused
returns-in-Err-clause-refused g c =
    let found = c.in_ok-count.ensures in
    no_memory (parts c.args.text.now) (take c.in_ok-count.count c.read_levels.new.levels)
    (subst (λ n. n ≤ level_count_limit) found.count.0 found.count.1) found.values

pub returns-in-Ok-clause-count : goal.returns-in-Ok-clause-count
returns-in-Ok-clause-count g c =
    let text = c.args.text.now in
    let levels = c.in-Ok.levels.items in
    let found = c.in_ok-count.ensures in
    let same : map level_in (parts text) ≡ map Some levels = found.values ∙ ap (map Some) (sym c.in-Ok.ensures.items) in
    let long = as_many (parts text) levels same in
    (omega (arith, some_part text), omega (arith, found.count.0, found.count.1))

pub returns-in-Ok-clause-range : goal.returns-in-Ok-clause-range
returns-in-Ok-clause-range g c =
    let text = c.args.text.now in
    let levels = c.in-Ok.levels.items in
    let same : map level_in (parts text) ≡ map Some levels = c.in_ok-count.ensures.values ∙ ap (map Some) (sym c.in-Ok.ensures.items) in
    levels_in_range (parts text) levels same
