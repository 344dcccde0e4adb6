use Rattle.std.proofs.Common.{◌≡◌, ◌++◌, map, take, drop}
use Rattle.split_tracks.specs.Tracks.{in_order}
use Rattle.split_tracks.proofs.tracks.put_all_in_order.Given as goal

abbrev pub invariant-loop-track : goal.invariant-loop-track
invariant-loop-track g l =
    map (λ track. track.items) l.track-items
    ≡ map in_order (take l.track-index (map (λ track. track.items) l.fn.tracks.items)) ++ drop l.track-index (map (λ track. track.items) l.fn.tracks.items)
