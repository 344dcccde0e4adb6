use Rattle.std.proofs.Common.{◌≡◌, count_by, length, map, ap, ◌∙◌, sym}
use lib.Lanes.{chunk}
use Rattle.std.proofs.lemmas.Simd.{length-chunk}
use Rattle.range_plane.specs.ConvexCover.{is_covered}
use Rattle.range_lanes.specs.Lanes.{is_not_negative}
use Rattle.range_lanes.proofs.CornerBoxes.{none_covered}
use Rattle.range_lanes.proofs.Counts.{all_pass, count_of_map, count_signs}
use Rattle.range_lanes.proofs.Known.{passes_where_not_negative, within_covered}
use Rattle.range_lanes.proofs.inside.count_group.Goals as goal

pub returns-then-count_not_negative-eq0 : goal.returns-then-count_not_negative-eq0
returns-then-count_not_negative-eq0 g c =
    none_covered c.args.polygon.now c.args.around.now.low c.args.around.now.high
    c.load-group.result c.margins.result c.requires.around c.margins.ensures (sym c.count_not_negative.ensures ∙ c.if-count_not_negative-eq0.true)
    ∙ ap (count_by (is_covered c.args.polygon.now)) c.load-group.ensures

pub returns-then-count_not_negative-eq-LANE_COUNT : goal.returns-then-count_not_negative-eq-LANE_COUNT
returns-then-count_not_negative-eq-LANE_COUNT g c =
    let inner = c.args.inner.now in
    let polygon = c.args.polygon.now in
    let group = c.load-group.result in
    let size : length group ≡ 8 = ap length c.load-group.ensures ∙ length-chunk c.args.at 8 c.args.cols.now.points c.requires.room in
    let counted : count_by (is_covered inner) group ≡ 8 = sym (c.count_not_negative-2.ensures
    ∙ count_signs (is_covered inner) group c.margins-within.result c.margins-within.ensures) ∙ c.if-count_not_negative-eq-LANE_COUNT.true in
    let covered = all_pass (is_covered inner) (is_covered polygon)
    (within_covered inner polygon c.requires.within) group
    (counted ∙ sym size) in
    sym counted ∙ sym (count_of_map (is_covered inner) group) ∙ ap (count_by (λ b. b)) covered ∙ count_of_map (is_covered polygon) group
    ∙ ap (count_by (is_covered polygon)) c.load-group.ensures

pub count_each-requires-clause-known : goal.count_each-requires-clause-known
count_each-requires-clause-known g c = λ i number p here there known.
    let inner = c.args.inner.now in
    let polygon = c.args.polygon.now in
    let numbers = c.to_array.result in
    let same : map is_not_negative numbers ≡ map (is_covered inner) (chunk c.args.at 8 c.args.cols.now.points) =
    ap (map is_not_negative) c.to_array.ensures ∙ c.margins-within.ensures ∙ ap (map (is_covered inner)) c.load-group.ensures in
    let covered = passes_where_not_negative (is_covered inner) numbers c.args.at c.args.cols.now.points c.requires.room same i number p here there known in
    within_covered inner polygon c.requires.within p covered

pub returns-in-Some : goal.returns-in-Some
returns-in-Some g c =
    let polygon = c.args.polygon.now in
    let group = c.load-group.result in
    let same : c.in-Some.edges.now ≡ polygon = rw c.in-Some.is at c.requires.edges in
    c.from.ensures ∙ c.count_not_negative-in-Some.ensures
    ∙ count_signs (is_covered polygon) group c.margins-in-Some.result (c.margins-in-Some.ensures ∙ ap (λ L. map (is_covered L) group) same)
    ∙ ap (count_by (is_covered polygon)) c.load-group.ensures
