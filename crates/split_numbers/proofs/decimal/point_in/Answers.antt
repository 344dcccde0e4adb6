use Rattle.std.proofs.Common.{◌==◌, ◌||◌, rules, tests}
use Rattle.std.proofs.lemmas.Iterator.{YieldsList-from_slice}
use Rattle.std.proofs.lemmas.Iterator.Search.{position_from_yields_List}
use Rattle.split_numbers.proofs.decimal.point_in.Goals as goal
