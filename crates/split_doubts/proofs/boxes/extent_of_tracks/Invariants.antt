use Rattle.std.proofs.Common.{◌≡◌, drop, fold, map}
use Rattle.split_doubts.specs.Boxes.{extent_of_tracks, with_track}
use Rattle.split_doubts.proofs.boxes.extent_of_tracks.Given as goal

abbrev pub invariant-loop-track : goal.invariant-loop-track
invariant-loop-track g l =
    extent_of_tracks (map (λ track. track.items) l.tracks) ≡ fold with_track l.extent (map (λ track. track.items) (drop l.track-index l.tracks))
