use Rattle.std.proofs.Common.{◌∙◌, sym}
use Rattle.range_plane.specs.ConvexCover.{is_covered}
use Rattle.range_lanes.proofs.CornerBoxes.{none_covered}
use Rattle.range_lanes.proofs.Counts.{count_signs}
use Rattle.range_lanes.proofs.inside.count_in_box.Goals as goal

pub returns-then-count_not_negative-eq0 : goal.returns-then-count_not_negative-eq0
returns-then-count_not_negative-eq0 c =
    none_covered c.args.edges.now c.args.around.now.low c.args.around.now.high
    c.args.group.now c.margins.result c.requires c.margins.ensures (sym c.count_not_negative.ensures ∙ c.if-count_not_negative-eq0.true)

pub returns : goal.returns
returns c =
    c.from.ensures ∙ c.count_not_negative-2.ensures
    ∙ count_signs (is_covered c.args.edges.now) c.args.group.now c.margins-2.result c.margins-2.ensures
