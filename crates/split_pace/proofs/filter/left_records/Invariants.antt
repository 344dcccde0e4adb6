use Rattle.std.proofs.Common.{◌≡◌, map, take}
use Rattle.split_pace.specs.Leave.{left_records}
use Rattle.split_pace.proofs.filter.left_records.Given as goal

abbrev pub invariant-loop-track : goal.invariant-loop-track
invariant-loop-track g l = l.left.items ≡ left_records l.filter (map (λ track. track.items) (take l.track-index l.tracks))
