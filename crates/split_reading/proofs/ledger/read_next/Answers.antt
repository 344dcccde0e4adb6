use Rattle.std.proofs.Common.{◌<◌, arith}
use Rattle.split_reading.proofs.LedgerFacts.{goes_on, row_fault, stops, timely_more}
use Rattle.split_reading.proofs.ledger.read_next.Goals as goal

pub returns-then-not-branch-clause-goes_on : goal.returns-then-not-branch-clause-goes_on
returns-then-not-branch-clause-goes_on c = stops _ _ _ _ _ _ (rw c.if-not-branch.true at c.in_ok-advance.ensures.takes)

pub returns-in-Ok-clause-goes_on : goal.returns-in-Ok-clause-goes_on
returns-in-Ok-clause-goes_on c =
    let few : c.args.count < 4_294_967_295 = omega (arith, c.if-count-eq4294967295.false, c.ranges.count.fits) in
    goes_on _ _ _ _ _ _ _ (rw c.if-not-branch.false at c.in_ok-advance.ensures.takes) (rw c.if-not-branch.false at c.in_ok-advance.ensures.none) (rw c.current.ensures at c.in-Ok.ensures.written) c.requires.few few

pub returns-in-Err-clause-fault : goal.returns-in-Err-clause-fault
returns-in-Err-clause-fault c =
    row_fault _ _ _ _ _ _ c.in-Err.fault (rw c.if-not-branch.false at c.in_ok-advance.ensures.takes) (rw c.current.ensures at c.in-Err.ensures.fault)

pub returns-in-Ok-clause-timely : goal.returns-in-Ok-clause-timely
returns-in-Ok-clause-timely c = timely_more _ _ _ _ _ c.in-Ok.ensures.written c.requires.timely
