use Rattle.split_chain.proofs.OnePlace.{one_place}
use Rattle.split_chain.proofs.laws.every_record_of_a_split_has_one_place.Goals as goal

pub returns : goal.returns
returns c = one_place c.every_record_has_one_place.ensures c.every_record_is_counted_once.ensures
