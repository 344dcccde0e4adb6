use Rattle.std.proofs.Common.{◌≡◌, ◌≤◌, ◌⊎◌, [], map}
use Rattle.std.specs.Vec.{vec_len, vec_capacity}
use Rattle.crossbeam_channel.specs.Claims.{view, IsSeatAt}
use Rattle.crossbeam_channel.specs.Ends.{sends_on, ruled_capacity}
use Rattle.range_line.specs.Rule.{taker_pass}
use Rattle.range_line.specs.LineEnds.{new_feeder, files_from}
use Rattle.range_line.specs.Passes.{line_from}
use Rattle.range_line.proofs.taker.open_line.Given as goal

abbrev pub invariant-loop-number : goal.invariant-loop-number
invariant-loop-number g l = IsSeatAt (sends_on l.sender) l.pass × (view l.pass ≡ taker_pass (view l.pass).depth (files_from l.first l.step l.number) [] [])
    × (l.feeders.items ≡ map (new_feeder (line_from l.pass l.first)) (files_from l.first l.step l.number))
    × (((view l.pass).files ≡ []) ⊎ ((view l.pass).depth ≡ ruled_capacity (sends_on l.sender))) × (vec_len l.feeders ≡ l.number)
    × (l.count ≤ vec_capacity l.feeders)
