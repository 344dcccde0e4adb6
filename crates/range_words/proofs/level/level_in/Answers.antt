use Rattle.std.proofs.Common.{◌≡◌, ◌<◌, ◌≤◌, Some, rules, tests, arith, sym, ap, ◌∙◌}
use Rattle.std.specs.Str.Parse.{digits_value}
use Rattle.range_options.specs.Limits.{level_limit}
use Rattle.range_words.proofs.LevelParts.{bad_level, good_level, no_number}
use Rattle.range_words.proofs.level.level_in.Goals as goal

pub returns-in_default : goal.returns-in_default
returns-in_default c = sym (no_number c.args.part.now c.in_default.ensures)

pub returns-then-contains : goal.returns-then-contains
returns-then-contains c =
    let part = c.args.part.now in
    let found = c.in-Some.ensures in
    let low : 1 ≤ c.in-Some.value = search (rules, tests) in
    let high : c.in-Some.value ≤ level_limit = search (rules, tests) in
    let value : c.in-Some.value ≡ digits_value 10 part = omega (arith, found.1, high) in
    ap Some value ∙ sym (good_level part found.0 (omega (arith, value, low)) (omega (arith, value, high)))

pub returns-else-contains : goal.returns-else-contains
returns-else-contains c =
    let part = c.args.part.now in
    let found = c.in-Some.ensures in
    let outside : 1 ≤ c.in-Some.value → level_limit < c.in-Some.value = search (rules, tests) in
    sym (bad_level part found.0 (λ some. let past = outside (omega (arith, some, found.1)) in omega (arith, past, found.1)))
