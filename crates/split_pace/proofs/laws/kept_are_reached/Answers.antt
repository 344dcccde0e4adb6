use Rattle.split_pace.proofs.Kept.{all_reached}
use Rattle.split_pace.proofs.laws.kept_are_reached.Goals as goal

pub returns : goal.returns
returns c = all_reached
