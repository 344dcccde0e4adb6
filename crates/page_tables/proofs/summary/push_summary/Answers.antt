use Rattle.std.proofs.Common.{◌≤◌, length, arith, ◌++◌, ◌∙◌, ap, append_assoc, flat_map, map}
use Rattle.page_facts.specs.Dates.{are_dates}
use Rattle.page_report.specs.Reading.{read, said}
use Rattle.page_tables.specs.Lines.{line, table}
use Rattle.page_tables.specs.Summary.{animal_lines, summary_titles}
use Rattle.page_tables.proofs.TableFacts.{animals_table, written}
use Rattle.page_tables.proofs.summary.push_summary.Goals as goal

pub returns : goal.returns
returns c =
    let dated = are_dates (read c.args.report.now) in
    let unit = c.args.report.now.unit in
    let animals = c.args.report.now.animals.items in
    let lines = table (flat_map (animal_lines dated unit) (map said animals)) in
    let ended : length animals ≤ c.loop-animal.animal-index = omega (arith, ap length c.deref-animal-items.ensures.value) in
    c.loop-animal.invariant
    ∙ ap (λ l. c.push_titles.new.text.items ++ l)
    (written (λ animal. table (animal_lines dated unit (said animal))) animals c.loop-animal.animal-index ended ∙ animals_table dated unit animals)
    ∙ ap (λ l. l ++ lines) c.in_ok-push_titles.ensures ∙ append_assoc c.args.text.now.items (line summary_titles) lines
