use Rattle.std.proofs.Common.{◌≡◌, map, vec_len}
use Rattle.range_line.specs.LineEnds.{ended_feeder, files_from, AreOfLine}
use Rattle.range_collect.specs.Work.{EachHolds}
use Rattle.range_collect.proofs.worker.Worker.drain.Given as goal

abbrev pub invariant-loop : goal.invariant-loop
invariant-loop g l = record {
  line : AreOfLine l.feeders.items l.taker.line;
  order : map (λ f. f.file) l.feeders.items ≡ l.taker.files;
  feeders : map ended_feeder l.feeders.items ≡ map ended_feeder l.fn.feeders.items;
  known : l.taker.files ≡ files_from l.stride.first l.stride.step (vec_len l.estimators);
  holds : EachHolds l.stride.first l.stride.step l.taker.taken l.estimators.items;
}
