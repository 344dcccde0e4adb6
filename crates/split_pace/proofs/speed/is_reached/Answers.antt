use Rattle.std.proofs.Common.{rules}
use Rattle.split_pace.proofs.Reach.{far_reached}
use Rattle.split_pace.proofs.speed.is_reached.Goals as goal

pub returns-in-None : goal.returns-in-None
returns-in-None c =
    let east = c.abs_diff-easting in
    let north = c.abs_diff-northing in
    let seconds = c.saturating_sub-seconds in
    far_reached c.args.unit c.args.speed c.args.before.now c.args.entry.now east.result north.result seconds.result (search rules) (search rules) seconds.ensures east.type_inv north.type_inv
    c.in-None.ensures
