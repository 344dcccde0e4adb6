use Rattle.std.proofs.Common.{◌≡◌, true, length, nat_lt, rules, tests, refl}
use Rattle.std.specs.Char.{is_ascii_digit}
use Rattle.std.specs.List.{list_all}
use Rattle.std.proofs.lemmas.Iterator.{YieldsList-from_slice}
use Rattle.std.proofs.lemmas.Iterator.Search.{all_from_yields_List}
use Rattle.range_numbers.proofs.number.is_number.Goals as goal

pub returns-then-not-is_empty : goal.returns-then-not-is_empty
returns-then-not-is_empty c =
    let xs = c.args.bytes.now in
    let some : nat_lt 0 (length xs) ≡ true = search (rules, tests) in
    let all : c.all.result ≡ list_all is_ascii_digit xs = all_from_yields_List is_ascii_digit _ _ _ c.all.ensures.ran (YieldsList-from_slice xs cc)
    (λ x b q k. search (rules, tests)) in
    rw (some, all) refl
