use Rattle.std.proofs.Common.{◌≡◌, ◌+◌, ◌++◌, ◌∷◌, [], map, take, rules, sym, ap, ◌∙◌}
use Rattle.std.proofs.lemmas.List.{map-append, take_more}
use Rattle.page_record.specs.Counts.{Adds}
use Rattle.page_record.specs.Reading.{left_seen}
use Rattle.page_record.proofs.Counting.{line_counted}
use Rattle.page_record.proofs.counts.tally_left.Goals as goal

pub loop-left-preserved : goal.loop-left-preserved
loop-left-preserved c =
    let lines = c.args.lines.now in
    let index = c.loop-left.left-index in
    let line = c.left-item.result in
    let so_far = map left_seen (take index lines) in
    let more : map left_seen (take (index + 1) lines) ≡ so_far ++ left_seen line ∷ [] =
    ap (map left_seen) (take_more lines index line c.loop-left-test.true) ∙ map-append left_seen (take index lines) _ ∙ ap (λ l. so_far ++ left_seen l ∷ []) (sym c.left-item.is) in
    let added : Adds line.name.items line.count line.reason line.count c.loop-left.table.entries c.add.new.table.entries = search rules in
    rw more (line_counted so_far (left_seen line) c.loop-left.table.entries c.add.new.table.entries c.loop-left.invariant (search rules) added)
