use Rattle.range_plane.proofs.ForCallers.{boxes_hold_what_is_covered}
use Rattle.range_plane.proofs.laws.boxes_hold_what_is_covered.Goals as goal

pub returns : goal.returns
returns c = boxes_hold_what_is_covered
