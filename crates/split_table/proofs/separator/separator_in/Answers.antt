use Rattle.std.proofs.Common.{◌≡◌, ◌==◌, ◌||◌, false, Some, None, option_map, ap, rules, tests, sym, ◌∙◌, refl}
use Rattle.std.proofs.lemmas.Iterator.{YieldsList-from_slice}
use Rattle.std.proofs.lemmas.Iterator.Search.{find_from_yields_List}
use Rattle.split_table.specs.Separator.{first_sign}
use Rattle.split_table.proofs.separator.separator_in.Goals as goal
use Rattle.split_table.proofs.separator.separator_in.Goals.{After-find}

found : (c : After-find) → option_map (λ b. b.now) c.find.result ≡ first_sign c.args.titles.now
found c = find_from_yields_List (λ b. b == 44 || b == 59) _ _ c.find.result c.find.ensures.ran (YieldsList-from_slice c.args.titles.now cc) (λ x b q k. search (rules, tests))

pub returns-in-Some-eq59-clause-value : goal.returns-in-Some-eq59-clause-value
returns-in-Some-eq59-clause-value c =
    let is : Some c.in-Some-eq59.field-0.now ≡ first_sign c.args.titles.now = sym (ap (option_map (λ b. b.now)) c.in-Some-eq59.is) ∙ found (goal.at.returns-in-Some-eq59-clause-value c).After-find in
    rw (← is, c.in-Some-eq59.field-0-test) refl

pub returns-in-Some-clause-value : goal.returns-in-Some-clause-value
returns-in-Some-clause-value c =
    let is : Some c.in-Some.field-0.now ≡ first_sign c.args.titles.now = sym (ap (option_map (λ b. b.now)) c.in-Some.is) ∙ found (goal.at.returns-in-Some-clause-value c).After-find in
    let other : (c.in-Some.field-0.now == 59) ≡ false = search (rules, tests) in
    rw (← is, other) refl

pub returns-in-None-clause-value : goal.returns-in-None-clause-value
returns-in-None-clause-value c =
    let is : None ≡ first_sign c.args.titles.now = sym (ap (option_map (λ b. b.now)) c.in-None.is) ∙ found (goal.at.returns-in-None-clause-value c).After-find in
    rw (← is, sym c.contains.ensures.value ∙ c.if-contains.true) refl

pub returns-in-None-2-clause-value : goal.returns-in-None-2-clause-value
returns-in-None-2-clause-value c =
    let is : None ≡ first_sign c.args.titles.now = sym (ap (option_map (λ b. b.now)) c.in-None.is) ∙ found (goal.at.returns-in-None-2-clause-value c).After-find in
    rw (← is, sym c.contains.ensures.value ∙ c.if-contains.false) refl
