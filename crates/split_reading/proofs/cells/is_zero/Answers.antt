use Rattle.std.proofs.Common.{◌≡◌, ◌∙◌, ◌==◌, ◌||◌, sym, rules, tests, refl}
use Rattle.std.specs.List.{list_all}
use Rattle.std.proofs.lemmas.Iterator.{YieldsList-from_slice}
use Rattle.std.proofs.lemmas.Iterator.Search.{all_from_yields_List}
use Rattle.split_reading.proofs.cells.is_zero.Goals as goal

pub returns-then-not-is_missing : goal.returns-then-not-is_missing
returns-then-not-is_missing c =
    let xs = c.args.text.now in
    let all : c.all.result ≡ list_all (λ b. b == 48 || b == 45 || b == 46 || b == 44) xs =
    all_from_yields_List (λ b. b == 48 || b == 45 || b == 46 || b == 44) _ _ _ c.all.ensures.ran (YieldsList-from_slice xs cc) (λ x b q k. search (rules, tests)) in
    rw (all, sym c.is_missing.ensures ∙ c.if-not-is_missing.true) refl
