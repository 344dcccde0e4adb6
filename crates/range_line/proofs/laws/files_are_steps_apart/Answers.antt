use Rattle.range_line.proofs.Files.{files_are_steps_apart}
use Rattle.range_line.proofs.laws.files_are_steps_apart.Goals as goal

pub returns : goal.returns
returns c = files_are_steps_apart
