use Rattle.range_plane.proofs.ForCallers.{areas_are_not_negative}
use Rattle.range_plane.proofs.laws.areas_are_not_negative.Goals as goal

pub returns : goal.returns
returns c = areas_are_not_negative
