use Rattle.std.proofs.Common.{take}
use Rattle.split_folder.specs.Folder.{IsKnown, begun, sound}
use Rattle.split_folder.specs.Fault.{files_in}
use Rattle.split_folder.proofs.write.add_all.Given as goal

abbrev pub invariant-loop-file : goal.invariant-loop-file
invariant-loop-file g l = IsKnown (sound (begun (take l.file (files_in l.files)))) (g.F.Folder.state l.folder)
