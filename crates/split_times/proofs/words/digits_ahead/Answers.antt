use Rattle.std.proofs.Common.{◌≡◌, ◌∙◌, not, Some, None, cond, ltb, length, rules, tests, sym}
use Rattle.std.specs.Char.{is_ascii_digit}
use Rattle.std.proofs.lemmas.Iterator.{YieldsList-from_slice}
use Rattle.std.proofs.lemmas.Iterator.Search.{position_from_yields_List}
use Rattle.std.proofs.lemmas.List.Sums.{prefix_len-le-length}
use Rattle.split_times.proofs.Places.{none_found, place_found}
use Rattle.split_times.proofs.words.digits_ahead.Goals as goal
use Rattle.split_times.proofs.words.digits_ahead.Goals.{After-position}
use Rattle.split_times.specs.Words.{digits_ahead}

found : (c : After-position) → c.position.result ≡ cond (ltb (digits_ahead c.args.text.now) (length c.args.text.now)) (Some (digits_ahead c.args.text.now)) None
found c =
    let xs = c.args.text.now in
    position_from_yields_List (λ b. not (is_ascii_digit b)) _ _ c.position.result c.position.ensures.ran (YieldsList-from_slice xs cc) (λ x b q k. search (rules, tests))

pub returns-in-Some-clause-value : goal.returns-in-Some-clause-value
returns-in-Some-clause-value c = place_found _ _ _ (sym c.in-Some.is ∙ found (goal.at.returns-in-Some-clause-value c).After-position)

pub returns-in-None-clause-value : goal.returns-in-None-clause-value
returns-in-None-clause-value c = none_found _ _ (prefix_len-le-length _ c.args.text.now) (sym c.in-None.is ∙ found (goal.at.returns-in-None-clause-value c).After-position)
