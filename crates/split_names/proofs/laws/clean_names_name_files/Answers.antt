use Rattle.split_names.specs.Clean.{clean}
use Rattle.split_names.proofs.FileNames.{clean_is_good, good_names_file}
use Rattle.split_names.proofs.laws.clean_names_name_files.Goals as goal

pub returns : goal.returns
returns c = λ name some. good_names_file (clean name) (clean_is_good name some)
