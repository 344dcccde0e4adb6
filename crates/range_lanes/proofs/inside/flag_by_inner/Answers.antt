use Rattle.std.proofs.Common.{◌≡◌, ◌+◌, ◌++◌, ◌*◌, map, take, sym, ◌∙◌, ap, arith}
use lib.Lanes.{chunk}
use Rattle.std.proofs.Math.Seq.{take-add}
use Rattle.std.proofs.lemmas.List.{map-append}
use Rattle.range_plane.specs.ConvexCover.{is_covered}
use Rattle.range_lanes.proofs.inside.flag_by_inner.Goals as goal
use Rattle.range_lanes.proofs.inside.flag_by_inner.Goals.{then-tries-eq0, else-tries-eq0+then-flag_group, else-tries-eq0+else-flag_group}

pub flag_group-requires-clause-within : goal.flag_group-requires-clause-within
flag_group-requires-clause-within g c = rw (sym c.corners.ensures.value, c.of-inner.ensures) c.inner_of-taken.ensures.within

pub loop-group-preserved : goal.loop-group-preserved
loop-group-preserved g c =
    let ps = c.args.cols.now.points in
    let test = is_covered c.args.polygon.now in
    let at = 8 * c.loop-group.group in
    let next : 8 * (c.loop-group.group + 1) ≡ at + 8 = omega arith in
    let flagged : take (at + 8) c.if-tries-eq0.flags ≡ take at c.loop-group.flags ++ map test (chunk at 8 ps) = elim c.if-tries-eq0.branch [
      | then-tries-eq0 w ↦ ap (take (at + 8)) w.flags-is ∙ w.flag_each.ensures
      | else-tries-eq0+then-flag_group w ↦ ap (take (at + 8)) w.flags-is ∙ w.flag_group.ensures
      | else-tries-eq0+else-flag_group w ↦ ap (take (at + 8)) w.flags-is ∙ w.flag_group.ensures
    ] in
    rw (next, flagged, c.loop-group.invariant, take-add at 8 ps, map-append test (take at ps) (chunk at 8 ps))
