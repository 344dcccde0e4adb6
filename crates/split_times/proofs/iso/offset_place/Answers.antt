use Rattle.std.proofs.Common.{◌≡◌, ◌∙◌, ◌==◌, ◌||◌, Some, None, cond, ltb, length, rules, tests, sym}
use Rattle.std.proofs.lemmas.Iterator.{YieldsList-from_slice}
use Rattle.std.proofs.lemmas.Iterator.Search.{position_from_yields_List}
use Rattle.std.proofs.lemmas.List.Sums.{prefix_len-le-length}
use Rattle.split_times.proofs.Places.{none_found, place_found}
use Rattle.split_times.proofs.iso.offset_place.Goals as goal
use Rattle.split_times.proofs.iso.offset_place.Goals.{After-position}
use Rattle.split_times.specs.Iso.{offset_place}

found : (c : After-position) → c.position.result ≡ cond (ltb (offset_place c.args.rest.now) (length c.args.rest.now)) (Some (offset_place c.args.rest.now)) None
found c =
    let xs = c.args.rest.now in
    position_from_yields_List (λ b. b == 90 || b == 43 || b == 45) _ _ c.position.result c.position.ensures.ran (YieldsList-from_slice xs cc) (λ x b q k. search (rules, tests))

pub returns-in-Some-clause-value : goal.returns-in-Some-clause-value
returns-in-Some-clause-value c = place_found _ _ _ (sym c.in-Some.is ∙ found (goal.at.returns-in-Some-clause-value c).After-position)

pub returns-in-None-clause-value : goal.returns-in-None-clause-value
returns-in-None-clause-value c = none_found _ _ (prefix_len-le-length _ c.args.rest.now) (sym c.in-None.is ∙ found (goal.at.returns-in-None-clause-value c).After-position)
