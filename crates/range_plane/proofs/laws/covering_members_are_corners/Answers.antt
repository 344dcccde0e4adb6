use Rattle.range_plane.proofs.ForCallers.{covering_members_are_corners}
use Rattle.range_plane.proofs.laws.covering_members_are_corners.Goals as goal

pub returns : goal.returns
returns c = covering_members_are_corners
