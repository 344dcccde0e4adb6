use Rattle.std.proofs.Common.{sym}
use Rattle.split_pace.proofs.Reach.{near_enough_by, too_far_by}
use Rattle.split_pace.proofs.speed.is_within.Goals as goal

pub returns-then-whole-easting : goal.returns-then-whole-easting
returns-then-whole-easting c = sym (too_far_by c.args.reach c.args.easting c.args.northing c.if-whole-easting.true)

pub returns-then-easting-northing : goal.returns-then-easting-northing
returns-then-easting-northing c = sym (near_enough_by c.args.reach c.args.easting c.args.northing c.if-easting-northing.true)
