use Rattle.split_folder.proofs.Calls.{told_so}
use Rattle.split_folder.proofs.write.write_folder.Goals as goal

pub returns-in-Err-clause-told : goal.returns-in-Err-clause-told
returns-in-Err-clause-told g c =
    rw c.err-left.ensures.value (told_so c.in-Err.field-0 c.remove.result _ _ c.in-Err.ensures.stopped c.remove.ensures.removed c.remove.ensures.failed)
