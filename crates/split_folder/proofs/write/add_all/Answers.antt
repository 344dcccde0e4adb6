use Rattle.split_folder.proofs.Calls.{begun_more}
use Rattle.split_folder.proofs.write.add_all.Goals as goal

pub loop-file-preserved : goal.loop-file-preserved
loop-file-preserved g c =
    begun_more c.args.files.now c.loop-file.file _ _ _ c.loop-file-test.true c.loop-file.invariant (rw c.in_ok-stop_at.ensures.ok at c.add-added.ensures.added)
