use Rattle.std.proofs.Common.{Option, refl, ap}
use Rattle.std.specs.Option.{option_map}
use Rattle.range_fixes.specs.declared.reader.Stage.TheVariants.{Going}
use Rattle.range_fixes.specs.Reader.{progress_by}
use Rattle.range_fixes.specs.Reading.{PassedRecords, reading_by}
use Rattle.range_fixes.proofs.ProgressFacts.{begins}
use Rattle.range_fixes.proofs.reader.FixReader.new.Goals as goal

pub returns-clause-reads : goal.returns-clause-reads
returns-clause-reads g c =
    begins c.args.unit (g.R.Read.remaining c.args.source) (progress_by Going 0 c.new.result) refl refl
    (ap (λ (x : Option PassedRecords). option_map (λ passed. reading_by 0 passed) x) c.new.ensures.ahead)
