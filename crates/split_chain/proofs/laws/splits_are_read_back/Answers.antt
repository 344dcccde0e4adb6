use Rattle.split_chain.proofs.ReadBack.{splits_read_back}
use Rattle.split_chain.proofs.laws.splits_are_read_back.Goals as goal

pub returns : goal.returns
returns c = splits_read_back
