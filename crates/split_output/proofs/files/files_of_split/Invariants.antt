use Rattle.std.proofs.Common.{◌≡◌, map, take}
use Rattle.split_export.specs.Files.{filed}
use Rattle.split_folder.specs.Fault.{files_in}
use Rattle.split_output.specs.Files.{file_of_track}
use Rattle.split_output.proofs.files.files_of_split.Given as goal

abbrev pub invariant-loop-place : goal.invariant-loop-place
invariant-loop-place l = files_in l.files.items ≡ map (λ track. file_of_track (filed track.now)) (take l.place l.track-items)
