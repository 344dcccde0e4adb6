use Rattle.std.proofs.Common.{◌≡◌, ◌++◌, ◌∙◌, OnOk, ap, append_assoc, codes, map, subst}
use Rattle.page_tables.specs.Animals.{fact_titles, reason_titles}
use Rattle.page_tables.specs.Lines.{behind}
use Rattle.page_tables.proofs.animals.push_first_titles.Goals as goal

pub returns : goal.returns
returns c =
    let text = c.args.text.now.items in
    let word = codes "animal,records" in
    let reasons = behind (reason_titles (map (λ reason. reason.now) c.args.reasons.now)) in
    let facts = behind fact_titles in
    subst (λ l. OnOk c.push_fact_titles.result (c.push_fact_titles.new.text.items ≡ l))
    (ap (λ l. l ++ facts) (c.in_ok-push_reasons.ensures ∙ ap (λ l. l ++ reasons) c.in_ok-extend_from_slice.ensures.items ∙ append_assoc text word reasons)
    ∙ append_assoc text (word ++ reasons) facts)
    c.push_fact_titles.ensures
