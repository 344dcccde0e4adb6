use Rattle.std.proofs.Common.{◌≡◌, ◌++◌, drop, map}
use Rattle.split_export.specs.Export.{bytes_of}
use Rattle.split_export.specs.Files.{entries_of_all, filed, files_of}
use Rattle.split_export.proofs.files.make_files.Given as goal

abbrev pub invariant-loop-place : goal.invariant-loop-place
invariant-loop-place l =
    files_of l.choice (bytes_of l.names) (entries_of_all l.tracks)
    ≡ map filed l.files.items ++ files_of l.choice (drop l.place (bytes_of l.names)) (drop l.place (entries_of_all l.tracks))
