use Rattle.split_pace.proofs.After.{filtered}
use Rattle.split_pace.proofs.laws.tracks_are_filtered.Goals as goal

pub returns : goal.returns
returns c = filtered
