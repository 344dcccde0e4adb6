use Rattle.page_tables.proofs.LawFacts.{exact}
use Rattle.page_tables.proofs.laws.hectares_are_exact.Goals as goal

pub returns : goal.returns
returns c = exact
