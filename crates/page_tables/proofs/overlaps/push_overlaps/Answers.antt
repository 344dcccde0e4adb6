use Rattle.std.proofs.Common.{◌<◌, ◌≤◌, ◌++◌, ◌∙◌, ap, append_assoc, arith, length}
use Rattle.std.proofs.lemmas.List.{length-map}
use Rattle.page_report.specs.Reading.{read, said}
use Rattle.page_tables.specs.Lines.{line, table}
use Rattle.page_tables.specs.Overlaps.{lines_from, overlap_titles}
use Rattle.page_tables.proofs.TableFacts.{next_line, no_line, no_more, one_more}
use Rattle.page_tables.proofs.overlaps.push_overlaps.Goals as goal

pub loop-animal-preserved : goal.loop-animal-preserved
loop-animal-preserved c =
    let report = read c.args.report.now in
    let all = length report.animals in
    let within : c.loop-animal.animal < all = omega (arith, length-map c.args.report.now.animals.items said) in
    rw c.in_ok-push_line.ensures
    (one_more c.loop-animal.text.items _ _ _ _ (next_line report c.loop-animal.animal all within) c.loop-animal.invariant)

pub returns : goal.returns
returns c =
    let report = read c.args.report.now in
    let all = length report.animals in
    let lines = table (lines_from report 0 all) in
    let ended : all ≤ c.loop-animal.animal = omega (arith, length-map c.args.report.now.animals.items said) in
    no_more c.loop-animal.text.items _ _ (no_line report c.loop-animal.animal all ended) c.loop-animal.invariant
    ∙ ap (λ l. l ++ lines) c.in_ok-push_titles.ensures ∙ append_assoc c.args.text.now.items (line (overlap_titles report)) lines
