use Rattle.std.proofs.Common.{◌≢◌, [], get_or}
use Rattle.split_names.proofs.EachName.{file_names_have}
use Rattle.split_names.proofs.FileNames.{IsGood, clean_is_good, good_names_file, with_number_is_good}
use Rattle.split_names.proofs.laws.file_names_name_files.Goals as goal

pub returns : goal.returns
returns c = λ names own few some is k d below.
    good_names_file (get_or own k d) (file_names_have (λ name. name ≢ []) IsGood clean_is_good with_number_is_good names own few some is k d below)
