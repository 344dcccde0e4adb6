use Rattle.std.proofs.Common.{refl}
use Rattle.range_lanes.proofs.laws.sizes_are_these.Goals as goal

pub returns : goal.returns
returns c = record { inner = refl }
