use Rattle.std.proofs.Common.{◌≡◌, ◌++◌, List, map}
use Rattle.split_counts.specs.Counts.{left_counts}
use Rattle.split_tracks.specs.declared.fate.Fate.{Fate}
use Rattle.split_output.specs.Left.{left_out}
use Rattle.split_output.proofs.LeftLines.{left_so_far}
use Rattle.split_output.proofs.left.push_left_of.Given as goal

abbrev pub invariant-loop-reason : goal.invariant-loop-reason
invariant-loop-reason l =
    (fates : List Fate) → l.counts ≡ left_counts l.animals fates
    → map left_out l.left.items ≡ map left_out l.initial.left.items ++ left_so_far fates l.name l.animal l.reason-index
