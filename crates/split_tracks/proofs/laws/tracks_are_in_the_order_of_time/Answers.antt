use Rattle.split_tracks.proofs.TimeOrder.{permuted-in_order, sorted-in_order, stable-in_order}
use Rattle.split_tracks.proofs.laws.tracks_are_in_the_order_of_time.Goals as goal

pub returns : goal.returns
returns c = λ entries. (permuted-in_order entries, sorted-in_order entries, stable-in_order entries)
