use Rattle.std.proofs.Common.{Some, inl, inr}
use Rattle.split_table.proofs.RecordFacts.{takes_record}
use Rattle.split_table.proofs.table.Table.advance.Goals as goal
use Rattle.split_table.proofs.table.Table.advance.Goals.{in-Ok, in-Err}

pub returns-clause-takes : goal.returns-clause-takes
returns-clause-takes c = elim c.match-read_byte_record.branch [
  | in-Ok w ↦ rw (w.result-is, ← c.self.view_is) (elim c.self.invariant [
    | inl failed ↦ rw failed tt
    | inr plain ↦ takes_record (λ s. Some s.now) c.self.inside.reader c.read_byte_record.new.self w.in-Ok.found _ (w.in-Ok.ensures.reads plain.0 plain.2)
  ])
  | in-Err w ↦ rw w.result-is tt
]
