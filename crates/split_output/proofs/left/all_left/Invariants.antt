use Rattle.std.proofs.Common.{◌≡◌, ◌++◌, [], List, None, Some, flat_map, map, take}
use Rattle.split_counts.specs.Counts.{left_counts}
use Rattle.split_tracks.specs.declared.fate.Fate.{Fate}
use Rattle.split_output.specs.Left.{left_of, left_out}
use Rattle.split_output.proofs.left.all_left.Given as goal

abbrev pub invariant-loop-name : goal.invariant-loop-name
invariant-loop-name l =
    (fates : List Fate) → l.split.counts.items ≡ left_counts l.animals fates
    → map left_out l.left.items ≡ left_of fates [] None ++ flat_map (λ one. left_of fates one.0.now (Some one.1)) (take l.name-index l.name-items)
