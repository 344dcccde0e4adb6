use Rattle.std.proofs.Common.{◌≡◌, ◌≤◌, ◌+◌, length}
use Rattle.page_report.specs.Reading.{parts}
use Rattle.page_record.specs.Reading.{read, read_from, record_of}
use Rattle.page_record.proofs.reading.read_record.Given as goal

abbrev pub invariant-loop-line : goal.invariant-loop-line
invariant-loop-line l = record {
  so_far : record_of l.text ≡ read_from l.number (l.reader.last, read l.reader.so_far) (parts l.rest);
  few : l.number + length l.rest ≤ length l.text + 1;
}

abbrev pub decreases-loop-line : goal.decreases-loop-line
decreases-loop-line l = length l.rest
