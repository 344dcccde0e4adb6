use Rattle.split_pace.proofs.Kept.{only_firsts}
use Rattle.split_pace.proofs.laws.only_firsts_are_kept.Goals as goal

pub returns : goal.returns
returns c = only_firsts
