use Rattle.std.proofs.Common.{◌≡◌, ◌++◌, ◌∙◌, OnOk, ap, append_assoc, map, subst}
use Rattle.page_report.specs.Reading.{read}
use Rattle.page_tables.specs.Animals.{titles_first, titles_last}
use Rattle.page_tables.proofs.AnimalFacts.{titles_line}
use Rattle.page_tables.proofs.animals.push_titles.Goals as goal

pub returns : goal.returns
returns c =
    let report = read c.args.report.now in
    let reasons = map (λ reason. reason.now) c.args.reasons.now in
    let text = c.args.text.now.items in
    subst (λ l. OnOk c.push_last_titles.result (c.push_last_titles.new.text.items ≡ l))
    (ap (λ l. l ++ titles_last report) c.in_ok-push_first_titles.ensures ∙ append_assoc text (titles_first reasons) (titles_last report)
    ∙ ap (λ l. text ++ l) (titles_line report reasons))
    c.push_last_titles.ensures
