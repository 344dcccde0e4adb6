use Rattle.range_plane.proofs.ForCallers.{covered_is_decided, on_segment_is_decided}
use Rattle.range_plane.proofs.laws.covered_is_decided.Goals as goal

pub returns-clause-set : goal.returns-clause-set
returns-clause-set c = covered_is_decided

pub returns-clause-segment : goal.returns-clause-segment
returns-clause-segment c = on_segment_is_decided
