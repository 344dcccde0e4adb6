use Rattle.std.proofs.Common.{◌≡◌, map, take}
use Rattle.split_export.specs.Files.{filed}
use Rattle.split_output.specs.Record.{track_of, track_seen}
use Rattle.split_output.proofs.record.all_made.Given as goal

abbrev pub invariant-loop-track : goal.invariant-loop-track
invariant-loop-track l = map track_seen l.made.items ≡ map (λ track. track_of (filed track.now)) (take l.track-index l.tracks)
