use Rattle.std.proofs.Common.{◌≡◌, ◌∙◌, not, rules, tests}
use Rattle.std.proofs.lemmas.Iterator.{YieldsList-from_slice}
use Rattle.std.proofs.lemmas.Iterator.Search.{position_from_yields_List}
use Rattle.std.proofs.lemmas.List.{take_rest}
use Rattle.std.specs.List.{position, position_or_len}
use Rattle.split_table.specs.Separator.{ends_line}
use Rattle.split_table.proofs.Places.{place_or_end}
use Rattle.split_table.proofs.separator.from_first_line.Goals as goal
use Rattle.split_table.proofs.separator.from_first_line.Goals.{After-unwrap_or-start}

start_is : (c : After-unwrap_or-start) → c.unwrap_or-start.result ≡ position_or_len (λ b. not (ends_line b)) c.args.text.now
start_is c =
    let text = c.args.text.now in
    let found : c.position.result ≡ position (λ b. not (ends_line b)) text =
    position_from_yields_List (λ b. not (ends_line b)) _ _ c.position.result c.position.ensures.ran (YieldsList-from_slice text cc) (λ x b q k. search (rules, tests)) in
    c.unwrap_or-start.ensures ∙ place_or_end (λ b. not (ends_line b)) text c.position.result found

pub returns : goal.returns
returns c =
    let start = start_is (goal.at.returns c).After-unwrap_or-start in
    rw start (take_rest c.args.text.now (position_or_len (λ b. not (ends_line b)) c.args.text.now))
