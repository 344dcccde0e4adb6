use Rattle.range_fixes.specs.Reading.{reading_from}
use Rattle.range_pump.proofs.Feedings.{pumped}
use Rattle.range_pump.proofs.file_pump.pump.Goals as goal
use Rattle.range_pump.proofs.file_pump.pump.Goals.{then-not-is_gone, else-not-is_gone}

pub returns : goal.returns
returns g c =
    let fed = c.send_fixes-read.ensures.fed (reading_from {S = g.row.S.Denot} g.S.Read.remaining c.args.unit c.args.source) c.new-reader.ensures.reads in
    elim c.if-not-is_gone.branch [
      | then-not-is_gone w ↦
          let own = rw w.if-not-is_gone.true at c.is_gone.ensures in
          rw w.feeder-is (pumped _ c.args.block c.args.feeder c.send_fixes-read.new.feeder w.close.new.self c.send_fixes-read.result w.close.result fed own
          w.close.ensures.sent)
      | else-not-is_gone w ↦ rw w.feeder-is fed.pumped
    ]
