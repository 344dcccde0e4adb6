use Rattle.split_folder.specs.Names.{AreGoodBefore}
use Rattle.split_folder.specs.Fault.{names_in}
use Rattle.split_folder.proofs.names.check_names.Given as goal

abbrev pub invariant-loop-file : goal.invariant-loop-file
invariant-loop-file l = AreGoodBefore (names_in l.files) l.file
