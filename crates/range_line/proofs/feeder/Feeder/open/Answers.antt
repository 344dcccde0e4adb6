use Rattle.std.proofs.Common.{refl}
use Rattle.range_line.proofs.Orderly.{orderly_empty}
use Rattle.range_line.proofs.Passes.{feeding_of}
use Rattle.range_line.proofs.feeder.Feeder.open.Goals as goal

pub invariant_of-result : goal.invariant_of-result
invariant_of-result g c =
    let s = c.split_pass-pass.ensures in
    (s.channel.2, feeding_of _ _ _ _ _ _ _ _ s.feeder refl orderly_empty refl refl)
