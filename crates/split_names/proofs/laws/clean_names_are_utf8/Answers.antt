use Rattle.split_names.proofs.Utf8Names.{clean_utf8}
use Rattle.split_names.proofs.laws.clean_names_are_utf8.Goals as goal

pub returns : goal.returns
returns c = clean_utf8
