use Rattle.std.specs.List.Sorted.{IsPermutation}
use Rattle.bench_tracks.proofs.shuffle.Given as goal

abbrev pub invariant-loop-i : goal.invariant-loop-i
invariant-loop-i l = IsPermutation l.fn.points l.points
