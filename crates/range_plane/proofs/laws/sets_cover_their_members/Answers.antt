use Rattle.range_plane.proofs.ForCallers.{sets_cover_their_members}
use Rattle.range_plane.proofs.laws.sets_cover_their_members.Goals as goal

pub returns : goal.returns
returns c = sets_cover_their_members
