use Rattle.std.specs.Str.{IsUtf8}
use Rattle.split_names.proofs.EachName.{file_names_have}
use Rattle.split_names.proofs.Utf8Names.{clean_utf8, with_number_utf8}
use Rattle.split_names.proofs.laws.file_names_are_utf8.Goals as goal

pub returns : goal.returns
returns c = file_names_have IsUtf8 IsUtf8 clean_utf8 with_number_utf8
