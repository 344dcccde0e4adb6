use Rattle.split_fates.proofs.FitTracks.{tracks_fit}
use Rattle.split_fates.proofs.laws.tracks_may_be_written.Goals as goal

pub returns : goal.returns
returns c = tracks_fit
