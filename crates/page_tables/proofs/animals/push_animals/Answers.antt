use Rattle.std.proofs.Common.{◌++◌, ◌∙◌, ap, append_assoc, map}
use Rattle.page_facts.specs.Dates.{are_dates}
use Rattle.page_report.specs.Reading.{read}
use Rattle.page_tables.specs.Animals.{animal_titles, told_lines}
use Rattle.page_tables.specs.Lines.{line, table}
use Rattle.page_tables.proofs.AnimalFacts.{next_told, none_told}
use Rattle.page_tables.proofs.TableFacts.{no_more, one_more}
use Rattle.page_tables.proofs.animals.push_animals.Goals as goal

pub loop-animal-preserved : goal.loop-animal-preserved
loop-animal-preserved c =
    let told = c.args.told.now in
    let own = c.index-told-animal.result in
    rw (c.in_ok-push_line.ensures, c.are_dates-dated.ensures)
    (one_more c.loop-animal.text.items _ _ _ _
    (next_told (read c.args.report.now) (are_dates (read c.args.report.now)) told c.loop-animal.animal own c.loop-animal-test.true c.index-told-animal.is) c.loop-animal.invariant)

pub returns : goal.returns
returns c =
    let report = read c.args.report.now in
    let lines = table (told_lines report (are_dates report) 0 c.args.told.now) in
    no_more c.loop-animal.text.items _ _ (none_told report (are_dates report) c.args.told.now c.loop-animal.animal c.loop-animal-test.false) c.loop-animal.invariant
    ∙ ap (λ l. l ++ lines) c.in_ok-push_titles.ensures
    ∙ append_assoc c.args.text.now.items (line (animal_titles report (map (λ reason. reason.now) c.args.reasons.now))) lines
