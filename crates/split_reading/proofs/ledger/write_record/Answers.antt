use Rattle.std.proofs.Common.{inr, refl, sym}
use Rattle.split_reading.proofs.ledger.write_record.Goals as goal

pub returns-in-Err-clause-fault : goal.returns-in-Err-clause-fault
returns-in-Err-clause-fault c =
    inr (c.in-Err.fault, rw (c.last_of.ensures, c.deref.ensures.value, c.in_ok-animal.ensures.value) at (sym c.in-Err.ensures.value), refl)
