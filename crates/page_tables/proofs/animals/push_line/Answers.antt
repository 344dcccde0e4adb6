use Rattle.std.proofs.Common.{◌≡◌, ◌++◌, ◌∙◌, OnOk, ap, append_assoc, subst}
use Rattle.page_report.specs.Reading.{read}
use Rattle.page_tables.specs.Animals.{told_first, told_last}
use Rattle.page_tables.proofs.AnimalFacts.{told_line}
use Rattle.page_tables.proofs.animals.push_line.Goals as goal

pub returns : goal.returns
returns c =
    let report = read c.args.report.now in
    let text = c.args.text.now.items in
    let first = told_first report c.args.dated c.args.animal c.args.told.now in
    let last = told_last report c.args.dated c.args.animal c.args.told.now in
    subst (λ l. OnOk c.push_last.result (c.push_last.new.text.items ≡ l))
    (ap (λ l. l ++ last) c.in_ok-push_first.ensures ∙ append_assoc text first last ∙ ap (λ l. text ++ l) (told_line report c.args.dated c.args.animal c.args.told.now))
    c.push_last.ensures
