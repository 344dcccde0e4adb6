use Rattle.std.proofs.Common.{◌≡◌, ◌∙◌, refl, rules, tests}
use Rattle.std.proofs.lemmas.Iterator.{YieldsList-from_slice}
use Rattle.std.proofs.lemmas.Iterator.Search.{position_from_yields_List}
use Rattle.std.specs.List.{position, position_or_len}
use Rattle.split_table.specs.Separator.{ends_line}
use Rattle.split_table.proofs.Places.{place_or_end}
use Rattle.split_table.proofs.separator.before_end.Goals as goal
use Rattle.split_table.proofs.separator.before_end.Goals.{After-unwrap_or-end}

pub returns : goal.returns
returns c =
    let text = c.args.text.now in
    let found : c.position.result ≡ position ends_line text =
    position_from_yields_List ends_line _ _ c.position.result c.position.ensures.ran (YieldsList-from_slice text cc) (λ x b q k. search (rules, tests)) in
    let end : c.unwrap_or-end.result ≡ position_or_len ends_line text = c.unwrap_or-end.ensures ∙ place_or_end ends_line text c.position.result found in
    rw end refl
