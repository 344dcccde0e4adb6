use Rattle.page_text.proofs.HarmlessFacts.{shown_harmless}
use Rattle.page_text.proofs.laws.shown_text_is_harmless.Goals as goal

pub returns : goal.returns
returns c = shown_harmless 0
