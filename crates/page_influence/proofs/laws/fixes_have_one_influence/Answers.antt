use Rattle.page_influence.proofs.Least.{one_influence}
use Rattle.page_influence.proofs.laws.fixes_have_one_influence.Goals as goal

pub returns : goal.returns
returns c = one_influence
