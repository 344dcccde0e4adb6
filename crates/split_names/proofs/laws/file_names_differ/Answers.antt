use Rattle.std.proofs.Common.{◌≢◌, AllPairs, List, ℕ, [], map, subst, arith}
use Rattle.range_lemmas.proofs.Indices.{map_length}
use Rattle.split_names.specs.Clean.{clean}
use Rattle.split_names.specs.Names.{folded, same_after}
use Rattle.split_names.proofs.Different.{names_differ}
use Rattle.split_names.proofs.EachName.{told}
use Rattle.split_names.proofs.laws.file_names_differ.Goals as goal

pub returns : goal.returns
returns c = λ names own few is.
    subst (λ (l : List (List ℕ)). AllPairs (λ one other. folded one ≢ folded other) l) (told (map clean names) (same_after [] (map clean names)) own is)
    (names_differ (map clean names) (omega (arith, few, map_length clean names)))
