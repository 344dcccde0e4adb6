use Rattle.std.proofs.Common.{◌∙◌, ◌≤◌, ◌+◌, ap, sym, subst, length}
use Rattle.std.proofs.lemmas.List.{length-map}
use lib.Lanes.{Each1}
use Rattle.std.proofs.lemmas.Simd.{length-chunk}
use Rattle.range_plane.specs.Plane.{IsCoordinate}
use Rattle.range_lanes.proofs.Eights.{group_is, group_coordinates}
use Rattle.range_lanes.proofs.eight.Eight.load.Goals as goal

pub invariant_of-result : goal.invariant_of-result
invariant_of-result g c =
    let es = c.eastings.result.now in
    let ns = c.northings.result.now in
    let at = c.args.at in
    let room_e : at + 8 ≤ length es = rw (c.eastings.ensures.value, length-map) c.requires in
    let room_n : at + 8 ≤ length ns = rw (c.northings.ensures.value, length-map) c.requires in (
      ap length c.load.ensures ∙ length-chunk at 8 es room_e,
      ap length c.load-2.ensures ∙ length-chunk at 8 ns room_n,
      subst (Each1 IsCoordinate) (sym c.load.ensures) (group_coordinates es at c.eastings.ensures.limits),
      subst (Each1 IsCoordinate) (sym c.load-2.ensures) (group_coordinates ns at c.northings.ensures.limits),
    )

pub returns : goal.returns
returns g c =
    rw (c.load.ensures, c.load-2.ensures, c.eastings.ensures.value, c.northings.ensures.value) (group_is c.args.at c.args.cols.now.points)
