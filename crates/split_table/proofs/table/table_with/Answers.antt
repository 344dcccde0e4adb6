use Rattle.std.proofs.Common.{◌≡◌, Some, refl, inr, rules}
use Rattle.csv.specs.Reading.{reader_config, records, strip_bom}
use Rattle.split_table.specs.Quotes.{config_by}
use Rattle.split_table.specs.Table.{records_left}
use Rattle.split_table.proofs.RecordFacts.{no_titles, takes_record, titles_read}
use Rattle.split_table.proofs.table.table_with.Goals as goal
use Rattle.split_table.proofs.table.table_with.Goals.{After-from_reader-reader, In-Ok-true, In-Ok-false}

config_is : (c : After-from_reader-reader) → reader_config c.from_reader-reader.result ≡ config_by c.args.separator
config_is c = search rules

all_left : (c : After-from_reader-reader) → records_left (λ s. Some s.now) c.from_reader-reader.result ≡ Some (records (config_by c.args.separator) (strip_bom c.args.text.now))
all_left c = rw (config_is c, c.from_reader-reader.ensures.state, c.from_reader-reader.ensures.source) refl

pub returns-in-Ok-true-clause-table : goal.returns-in-Ok-true-clause-table
returns-in-Ok-true-clause-table c =
    let read = c.in-Ok-true.ensures.reads (search rules) (search rules) in
    let takes = takes_record (λ s. Some s.now) c.from_reader-reader.result c.read_byte_record.new.self c.in-Ok-true.field-0 _ read in
    titles_read _ _ _ _ (all_left (goal.at.returns-in-Ok-true-clause-table c).After-from_reader-reader) (rw c.in-Ok-true.field-0-test at takes)

pub returns-in-Ok-false-clause-fault : goal.returns-in-Ok-false-clause-fault
returns-in-Ok-false-clause-fault c =
    let read = c.in-Ok-false.ensures.reads (search rules) (search rules) in
    let takes = takes_record (λ s. Some s.now) c.from_reader-reader.result c.read_byte_record.new.self c.in-Ok-false.field-0 _ read in
    inr (no_titles _ _ _ _ (all_left (goal.at.returns-in-Ok-false-clause-fault c).After-from_reader-reader) (rw c.in-Ok-false.field-0-test at takes))
