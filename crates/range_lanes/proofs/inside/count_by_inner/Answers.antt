use Rattle.std.proofs.Common.{◌≡◌, ◌+◌, ◌*◌, sym, arith}
use Rattle.range_plane.specs.ConvexCover.{is_covered}
use Rattle.range_lanes.proofs.Counts.{count_more}
use Rattle.range_lanes.proofs.inside.count_by_inner.Goals as goal

pub count_group-count-requires-clause-within : goal.count_group-count-requires-clause-within
count_group-count-requires-clause-within g c = rw (sym c.corners-corners.ensures.value, c.of-inner.ensures) c.inner_of-taken.ensures.within

pub count_group-count-requires-clause-around : goal.count_group-count-requires-clause-around
count_group-count-requires-clause-around g c = rw (sym c.corners-corners.ensures.value) c.of-around.ensures

pub loop-group-preserved : goal.loop-group-preserved
loop-group-preserved g c =
    let ps = c.args.cols.now.points in
    let test = is_covered c.args.polygon.now in
    let at = 8 * c.loop-group.group in
    let next : 8 * (c.loop-group.group + 1) ≡ at + 8 = omega arith in
    rw (c.loop-group.invariant, c.count_group-count.ensures, next) (count_more test at ps)
