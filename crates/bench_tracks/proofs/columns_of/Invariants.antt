use Rattle.std.proofs.Common.{◌≡◌, take}
use Rattle.bench_tracks.proofs.columns_of.Given as goal

abbrev pub invariant-loop-p : goal.invariant-loop-p
invariant-loop-p l = l.columns.points ≡ take l.p-index l.points
