use Rattle.std.proofs.Common.{◌≡◌, ◌∙◌, Some, None, cond, ltb, length, rules, tests, sym}
use Rattle.std.specs.List.{position_or_len}
use Rattle.std.proofs.lemmas.Iterator.{YieldsList-from_slice}
use Rattle.std.proofs.lemmas.Iterator.Search.{position_from_yields_List}
use Rattle.std.proofs.lemmas.List.Sums.{prefix_len-le-length}
use Rattle.split_times.proofs.Places.{none_found, place_found}
use Rattle.split_times.proofs.forms.bar_place.Goals as goal
use Rattle.split_times.proofs.forms.bar_place.Goals.{After-position}
use Rattle.split_times.specs.Several.{is_bar}

found : (c : After-position) → c.position.result ≡ cond (ltb (position_or_len is_bar c.args.text.now) (length c.args.text.now)) (Some (position_or_len is_bar c.args.text.now)) None
found c =
    let xs = c.args.text.now in
    position_from_yields_List is_bar _ _ c.position.result c.position.ensures.ran (YieldsList-from_slice xs cc) (λ x b q k. search (rules, tests))

pub returns-in-Some-clause-value : goal.returns-in-Some-clause-value
returns-in-Some-clause-value c = place_found _ _ _ (sym c.in-Some.is ∙ found (goal.at.returns-in-Some-clause-value c).After-position)

pub returns-in-None-clause-value : goal.returns-in-None-clause-value
returns-in-None-clause-value c = none_found _ _ (prefix_len-le-length _ c.args.text.now) (sym c.in-None.is ∙ found (goal.at.returns-in-None-clause-value c).After-position)
