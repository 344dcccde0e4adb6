use Rattle.page_text.proofs.CellFacts.{cell_back}
use Rattle.page_text.proofs.laws.cells_are_read_back.Goals as goal

pub returns : goal.returns
returns c = cell_back
