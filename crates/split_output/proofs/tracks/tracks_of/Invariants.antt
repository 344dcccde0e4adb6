use Rattle.std.proofs.Common.{◌≡◌, filter_map, map, slice_get, take}
use Rattle.split_export.specs.Files.{filed}
use Rattle.split_output.proofs.tracks.tracks_of.Given as goal

abbrev pub invariant-loop-animal : goal.invariant-loop-animal
invariant-loop-animal l =
    map (λ track. filed track.now) l.tracks.items
    ≡ filter_map (slice_get (map filed l.split.files.items)) (take l.animal-index l.animal-items)
