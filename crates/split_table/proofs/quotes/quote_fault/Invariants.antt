use Rattle.std.proofs.Common.{◌≡◌, ◌≤◌, drop}
use Rattle.split_table.specs.Quotes.{quote_fault_from, quote_fault_of, state_of}
use Rattle.split_table.proofs.quotes.quote_fault.Given as goal

abbrev pub invariant-loop-byte : goal.invariant-loop-byte
invariant-loop-byte l = record {
  bound : l.record ≤ l.byte-index;
  so_far : quote_fault_of l.fn.separator l.fn.text ≡ quote_fault_from l.fn.separator (state_of l.place) l.record (drop l.byte-index l.fn.text);
}
