use Rattle.split_tracks.proofs.Places.{all_counted, all_in_tracks}
use Rattle.split_tracks.proofs.laws.every_record_has_one_place.Goals as goal

pub returns : goal.returns
returns c = λ animals fates all. (all_in_tracks animals fates all, all_counted fates)
