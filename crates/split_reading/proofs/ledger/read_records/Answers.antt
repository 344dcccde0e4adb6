use Rattle.std.proofs.Common.{◌≡◌, [], map, ap, arith, subst, sym}
use Rattle.split_reading.specs.Ledger.{AreTimely}
use Rattle.split_reading.specs.Words.{texts}
use Rattle.split_reading.proofs.LedgerFacts.{begins}
use Rattle.split_reading.proofs.ledger.read_records.Goals as goal

pub records-init : goal.records-init
records-init g c =
    let names : texts c.new.result ≡ [] = ap (λ l. map (λ k. k.items) l) c.new.ensures.empty in
    let sensors : texts c.new-2.result ≡ [] = ap (λ l. map (λ k. k.items) l) c.new-2.ensures.empty in
    record {
      few = (rw names (omega arith), rw sensors (omega arith));
      timely = subst AreTimely (sym c.new-4.ensures.items) (λ k d below. absurd (omega (arith, below)));
      so_far = λ records is. (records, is, begins _ _ records names sensors c.new-3.ensures.items c.new-4.ensures.items, omega arith);
    }
