use Rattle.range_fixes.proofs.read_fault.write_count.Goals as goal

pub returns : goal.returns
returns g c = rw (← c.fields_word-fields.ensures) c.write.ensures.writes
