use Rattle.page_record.proofs.Counting.{adds}
use Rattle.page_record.proofs.counts.add.Goals as goal

pub returns : goal.returns
returns c =
    adds c.in_ok-name.name c.with_more-counts.result c.args.table.now.entries c.insert.new.self.entries c.args.animal.now c.args.records c.args.reason c.args.left
    c.in_ok-insert.ensures.entries c.in_ok-name.ensures.items (rw c.counts_at.ensures at c.with_more-counts.ensures)
