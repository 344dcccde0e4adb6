use Rattle.split_chain.proofs.OnePlace.{add_up}
use Rattle.split_chain.proofs.laws.records_of_a_split_add_up.Goals as goal

pub returns : goal.returns
returns c = add_up c.every_record_has_one_place.ensures c.every_record_of_a_split_has_one_place.ensures
