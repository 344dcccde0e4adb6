use Rattle.std.proofs.Common.{◌-◌}
use Rattle.split_reading.specs.Ledger.{AreTimely, IsWithin, written}
use Rattle.split_reading.proofs.LedgerFacts.{SoFar}
use Rattle.split_reading.proofs.ledger.read_records.Given as goal

abbrev pub invariant-records : goal.invariant-records
invariant-records g l = record {
  few : IsWithin l.count (written l.ledger);
  timely : AreTimely l.ledger.rows.items;
  so_far : SoFar l.rules l.fn.table.left l.count (written l.ledger) l.table.left;
}

abbrev pub decreases-records : goal.decreases-records
decreases-records g l = 4_294_967_296 - l.count
