use Rattle.std.proofs.Common.{◌≡◌, ◌++◌, length, map, take, sym, ap, ◌∙◌}
use lib.Lanes.{chunk}
use Rattle.std.proofs.lemmas.Simd.{length-chunk}
use Rattle.range_plane.specs.ConvexCover.{is_covered}
use Rattle.range_lanes.specs.Lanes.{is_not_negative}
use Rattle.range_lanes.proofs.Counts.{all_pass, count_signs}
use Rattle.range_lanes.proofs.Known.{passes_where_not_negative, within_covered}
use Rattle.range_lanes.proofs.inside.flag_group.Goals as goal

pub returns-then-told-eq-LANE_COUNT : goal.returns-then-told-eq-LANE_COUNT
returns-then-told-eq-LANE_COUNT g c =
    let inner = c.args.inner.now in
    let polygon = c.args.polygon.now in
    let group = c.load-group.result in
    let size : length group ≡ 8 = ap length c.load-group.ensures ∙ length-chunk c.args.at 8 c.args.cols.now.points c.requires.room in
    let all : c.count_not_negative-told.result ≡ length group = c.if-told-eq-LANE_COUNT.true ∙ sym size in
    let counted = sym (c.count_not_negative-told.ensures ∙ count_signs (is_covered inner) group c.margins-quick.result c.margins-quick.ensures) ∙ all in
    let covered = all_pass (is_covered inner) (is_covered polygon)
    (within_covered inner polygon c.requires.within) group counted in
    c.flag_not_negative.ensures
    ∙ ap (λ flags. take c.args.at c.args.flags.now ++ flags) (c.margins-quick.ensures ∙ covered ∙ ap (map (is_covered polygon)) c.load-group.ensures)

pub flag_each-requires-clause-known : goal.flag_each-requires-clause-known
flag_each-requires-clause-known g c = λ i number p here there known.
    let inner = c.args.inner.now in
    let polygon = c.args.polygon.now in
    let numbers = c.to_array.result in
    let same : map is_not_negative numbers ≡ map (is_covered inner) (chunk c.args.at 8 c.args.cols.now.points) =
    ap (map is_not_negative) c.to_array.ensures ∙ c.margins-quick.ensures ∙ ap (map (is_covered inner)) c.load-group.ensures in
    let covered = passes_where_not_negative (is_covered inner) numbers c.args.at c.args.cols.now.points c.requires.room same i number p here there known in
    within_covered inner polygon c.requires.within p covered
