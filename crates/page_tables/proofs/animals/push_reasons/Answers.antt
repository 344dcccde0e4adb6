use Rattle.std.proofs.Common.{◌++◌, ◌∙◌, ap, Bor, ℕ, List, codes}
use Rattle.page_tables.specs.Lines.{behind_comma}
use Rattle.page_tables.proofs.TableFacts.{behind_of_texts, written}
use Rattle.page_tables.proofs.animals.push_reasons.Goals as goal

pub returns : goal.returns
returns c =
    let title = λ (reason : List ℕ). codes "left_" ++ reason in
    let reasons = c.args.reasons.now in
    c.loop-reason.invariant
    ∙ ap (λ l. c.args.text.now.items ++ l)
    (written (λ (reason : Bor (List ℕ)). behind_comma (title reason.now)) reasons c.loop-reason.reason-index c.loop-reason-test.false ∙ behind_of_texts title reasons)
