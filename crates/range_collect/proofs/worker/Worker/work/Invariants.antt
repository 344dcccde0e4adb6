use Rattle.std.proofs.Common.{◌≡◌, false, vec_len}
use Rattle.range_line.specs.LineEnds.{files_from}
use Rattle.range_collect.specs.Work.{EachHolds}
use Rattle.range_collect.proofs.worker.Worker.work.Given as goal

abbrev pub invariant-loop : goal.invariant-loop
invariant-loop g l = record {
  line : l.taker.line ≡ l.fn.self.line;
  files : l.taker.files ≡ l.fn.self.files;
  live : l.taker.ended ≡ false;
  known : l.taker.files ≡ files_from l.stride.first l.stride.step (vec_len l.estimators);
  holds : EachHolds l.stride.first l.stride.step l.taker.taken l.estimators.items;
}
