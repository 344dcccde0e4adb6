use Rattle.page_facts.proofs.IntervalFacts.{interval_on, intervals_end}
use Rattle.page_facts.proofs.intervals.intervals_behind.Goals as goal

pub loop-row-preserved : goal.loop-row-preserved
loop-row-preserved c =
    rw (c.in_ok-push.ensures.items, c.saturating_sub.ensures)
    (interval_on c.loop-row.intervals.items _ c.args.rows.now c.loop-row.former c.loop-row.row-index c.loop-row-test.true c.loop-row.invariant)

pub returns : goal.returns
returns c = intervals_end c.loop-row.intervals.items _ c.args.rows.now c.loop-row.former c.loop-row.row-index c.loop-row-test.false c.loop-row.invariant
