use Rattle.split_files.proofs.ReadBack.{read_back_law}
use Rattle.split_files.proofs.laws.tracks_are_read_back.Goals as goal

pub returns : goal.returns
returns c = read_back_law
