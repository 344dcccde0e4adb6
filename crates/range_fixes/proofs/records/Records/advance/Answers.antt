use Rattle.std.proofs.Common.{inl, inr, sym, ◌∙◌}
use Rattle.std.proofs.lemmas.Bool.{false≢true}
use Rattle.range_fixes.proofs.RecordFacts.{takes_record}
use Rattle.range_fixes.proofs.records.Records.advance.Goals as goal
use Rattle.range_fixes.proofs.records.Records.advance.Goals.{in-Ok, in-Err}

pub returns-clause-takes : goal.returns-clause-takes
returns-clause-takes g c = elim c.match-read_byte_record.branch [
  | in-Ok w ↦
      let going = rw (← c.self.view_is) at c.requires in
      rw (w.result-is, ← c.self.view_is) (elim c.self.invariant [
        | inl failed ↦ absurd (false≢true (sym going ∙ failed))
        | inr plain ↦ takes_record g.R.Read.remaining c.self.inside.reader c.read_byte_record.new.self w.in-Ok.found _ plain.0
            (w.in-Ok.ensures.reads plain.1 plain.3)
      ])
  | in-Err w ↦ rw w.result-is tt
]
