use Rattle.std.proofs.Common.{◌≡◌, map, string_bytes, take}
use Rattle.split_export.specs.Files.{filed}
use Rattle.split_output.specs.Files.{name_of_track}
use Rattle.split_output.proofs.files.names_of_split.Given as goal

abbrev pub invariant-loop-track : goal.invariant-loop-track
invariant-loop-track l = map string_bytes l.names.items ≡ map (λ track. name_of_track (filed track.now)) (take l.track-index l.track-items)
