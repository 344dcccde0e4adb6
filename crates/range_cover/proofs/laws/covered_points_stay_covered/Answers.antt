use Rattle.range_cover.proofs.ForCallers.{covered_points_stay_covered}
use Rattle.range_cover.proofs.laws.covered_points_stay_covered.Goals as goal

pub returns : goal.returns
returns c = covered_points_stay_covered
