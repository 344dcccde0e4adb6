use Rattle.range_plane.proofs.ForCallers.{covering_is_reaching}
use Rattle.range_plane.proofs.laws.covering_is_reaching.Goals as goal

pub returns : goal.returns
returns c = covering_is_reaching
