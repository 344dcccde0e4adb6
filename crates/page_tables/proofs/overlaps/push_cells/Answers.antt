use Rattle.std.proofs.Common.{◌<◌, ◌≤◌, arith, length}
use Rattle.std.proofs.lemmas.List.{length-map}
use Rattle.page_report.specs.Reading.{read, said}
use Rattle.page_tables.proofs.TableFacts.{next_cell, no_cell, no_more, one_more}
use Rattle.page_tables.proofs.overlaps.push_cells.Goals as goal

pub loop-range-preserved : goal.loop-range-preserved
loop-range-preserved c =
    let report = read c.args.report.now in
    let all = length report.animals in
    let within : c.loop-range.range < all = omega (arith, length-map c.args.report.now.animals.items said) in
    rw c.in_ok-push_overlap.ensures
    (one_more c.loop-range.text.items _ _ _ _ (next_cell report c.args.animal c.loop-range.range all within) c.loop-range.invariant)

pub returns : goal.returns
returns c =
    let report = read c.args.report.now in
    let all = length report.animals in
    let ended : all ≤ c.loop-range.range = omega (arith, length-map c.args.report.now.animals.items said) in
    no_more c.loop-range.text.items _ _ (no_cell report c.args.animal c.loop-range.range all ended) c.loop-range.invariant
