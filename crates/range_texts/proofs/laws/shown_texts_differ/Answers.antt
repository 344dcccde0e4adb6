use Rattle.range_texts.proofs.ReadBack.{shown_alike}
use Rattle.range_texts.proofs.laws.shown_texts_differ.Goals as goal

pub returns : goal.returns
returns c = shown_alike
