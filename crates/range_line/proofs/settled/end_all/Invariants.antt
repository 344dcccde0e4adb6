use Rattle.std.proofs.Common.{◌≡◌, [], ◌++◌, map, take, drop}
use Rattle.crossbeam_channel.specs.Claims.{view}
use Rattle.range_line.specs.LineEnds.{ended_feeder}
use Rattle.range_line.specs.Passes.{after_joining_all, line_of, IsTaking}
use Rattle.range_line.proofs.settled.end_all.Given as goal

abbrev pub invariant-loop-feeder : goal.invariant-loop-feeder
invariant-loop-feeder g l = IsTaking l.pass × (l.pass.me.1 ≡ []) × (line_of l.pass ≡ line_of l.fn.pass)
    × (view l.pass ≡ after_joining_all (view l.fn.pass) (take l.feeder-index l.fn.feeders.items))
    × (l.feeder-items ≡ map ended_feeder (take l.feeder-index l.fn.feeders.items) ++ drop l.feeder-index l.fn.feeders.items)
